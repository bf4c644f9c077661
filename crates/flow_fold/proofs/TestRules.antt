-- The rule by which a node that tells whether a word that is 0 or 1 is not 0 copies the word.
use Rattle.std.proofs.Common.{◌≡◌, ◌≢◌, ℕ, zero, suc, ◌<◌, List, [], ◌∷◌, refl, sym, ap, subst, ◌∙◌, arith, cond, true}
use Rattle.std.proofs.Common.{◌&&◌, map}
use Rattle.std.specs.Prelude.{ℤ, pos, negsuc, int_le, int_lt, Some, None, Option, slice_get, slice_index}
use Rattle.std.proofs.Math.Path.{fun_ext}
use Rattle.std.proofs.lemmas.Bool.{and_parts, ltb-true}
use Rattle.trips_isa.specs.declared.op.Op.{Op}
use Rattle.trips_isa.specs.declared.op.Op.TheVariants as op
use Rattle.trips_isa.specs.declared.form.Form.{Form}
use Rattle.trips_isa.specs.declared.form.Form.TheVariants.{General, Immediate}
use Rattle.trips_isa.specs.declared.form.Role.{Role}
use Rattle.trips_isa.specs.declared.form.Role.TheVariants.{One}
use Rattle.trips_isa.specs.declared.block.Token.TheVariants.{Null, Word}
use Rattle.trips_isa.specs.declared.block.Stored.{Stored}
use Rattle.trips_isa.specs.inside.Acts.{Act, Divided}
use Rattle.trips_isa.specs.Alu.{alu_of, word}
use Rattle.trips_isa.specs.Faults.{divides}
use Rattle.trips_isa.specs.Blocks.{form_computes}
use Rattle.trips_isa.specs.Forms.{form_of, role_of, size_of, takes_right}
use Rattle.trips_isa.specs.Rule as rules
use Rattle.trips_isa.specs.Rule.{Answer, if_matched, of_one}
use Rattle.trips_isa.specs.Stores.{bytes_seen}
use Rattle.ir_forms.specs.declared.flow.FlowSource.TheVariants.{Node}
use Rattle.ir_forms.specs.declared.flow.FlowNode.{FlowNode}
use Rattle.ir_forms.specs.declared.flow.FlowBlock.{FlowBlock}
use Rattle.ir_forms.specs.inside.FlowRuns.{Computes, Obeys, gives, meant, stores, first, met, inst_of, guard_token}
use Rattle.ir_forms.specs.inside.FlowRuns.{leaving_in, numbered, act_tokens, stored_in}
use Rattle.ir_forms.specs.inside.FlowFits.{FitsNodeForm, AtMostOne}
use Rattle.flow_fold.specs.inside.Tests.{is_tnei, is_zero, as_copy, are_bits, tells_bit}
use Rattle.flow_fold.specs.inside.Replaces.{Immediates, LeavesOwn, with_immediate}
use Rattle.flow_fold.specs.inside.Folds.{with_node}
use Rattle.flow_fold.proofs.Places.{all_at, set_here, set_there}
use Rattle.flow_fold.proofs.Echoes.{obeys_at}
use Rattle.flow_fold.proofs.Names.{named_at}
use Rattle.flow_fold.proofs.Turned.{Written, Works, SameDeeds}
use Rattle.flow_fold.proofs.BitFacts.{IsBitToken, bits_given, are_bits_kept}

pub tnei_is : (o : Op) → is_tnei o ≡ true → o ≡ op.Tnei
tnei_is op.Tnei e = refl
tnei_is _ e = absurd (cc)

pub zero_is : (i : ℤ) → is_zero i ≡ true → i ≡ pos 0
zero_is (pos w) e =
    let l : w < 1 = ltb-true w 1 (and_parts (int_le (pos 0) (pos w)) (int_lt (pos w) (pos 1)) e).1 in
    ap (λ (x : ℕ). pos x) (omega (arith, l))
zero_is (negsuc w) e = absurd (cc)

-- a node that tells whether a word that is 0 or 1 is not 0, and the copy
pub record Telling (nodes : List FlowNode) (j : ℕ) (n m : FlowNode) : Type 0 where
  pub tells : n.op ≡ op.Tnei
  pub zero : n.imm ≡ pos 0
  pub bits : are_bits nodes j n.left ≡ true
  pub is : m ≡ as_copy n

-- it is where the test is found
pub telling : (nodes : List FlowNode) (j : ℕ) (n m : FlowNode) → tells_bit nodes j n ≡ true → m ≡ as_copy n
    → Telling nodes j n m
telling nodes j n m t e =
    let p = and_parts (is_tnei n.op) (is_zero n.imm && are_bits nodes j n.left) t in
    let q = and_parts (is_zero n.imm) (are_bits nodes j n.left) p.1 in
    record { tells = tnei_is n.op p.0; zero = zero_is n.imm q.0; bits = q.1; is = e }

-- new immediates leave it
pub telling_kept : (r : Immediates) → LeavesOwn r → (nodes : List FlowNode) (j : ℕ) (n m : FlowNode)
    → Telling nodes j n m → Telling (map (with_immediate r) nodes) j (with_immediate r n) (with_immediate r m)
telling_kept r own nodes j n m t = record {
  tells = t.tells;
  zero = ap (r n.op) t.zero ∙ own n.op (pos 0) (omega arith);
  bits = are_bits_kept r own nodes j n.left t.bits;
  is = ap (with_immediate r) t.is
      ∙ ap (λ (z : ℤ). record (as_copy n) { imm = z }) (own op.Mov (pos 0) (omega arith));
}

-- of a word that is 0 or 1, whether it is not 0 is the word
same_bit : (w : ℕ) → w < 2 → alu_of op.Tnei w 0 ≡ w
same_bit zero l = refl
same_bit (suc zero) l = refl
same_bit (suc (suc w)) l = absurd (omega (arith, l))

same_token : (l : Answer) → IsBitToken l → of_one (λ (x : ℕ). alu_of op.Tnei x 0) l ≡ l
same_token None b = refl
same_token (Some Null) b = refl
same_token (Some (Word w)) b = ap (λ (x : ℕ). Some (Word x)) (same_bit w b)

identity : (l : Answer) → l ≡ of_one (λ (x : ℕ). x) l
identity None = refl
identity (Some Null) = refl
identity (Some (Word w)) = refl

module _ (f : FlowBlock) (j : ℕ) (n : FlowNode) (there : slice_get f.nodes j ≡ Some n) (tells : n.op ≡ op.Tnei)
    (zero : n.imm ≡ pos 0) (bits : are_bits f.nodes j n.left ≡ true) where
  abbrev m : FlowNode
  m = as_copy n

  form : form_of n.op ≡ Immediate
  form = ap form_of tells

  role : role_of n.op ≡ One
  role = ap role_of tells

  -- the copy may be written
  pub copy_written : Written f j n m
  copy_written = record {
    fits = λ all a. record {
      form = (refl, (subst (λ (x : Form). FitsNodeForm x n) form a.form).1);
      guard = a.guard;
      left = a.left;
      right = a.right;
    };
    rises = λ rank order. let a = order.sources j n there in
        record { left = a.left; right = a.right; guard = a.guard };
    load = λ e. absurd (cc e);
    store = λ e. absurd (cc e);
    silent = λ e. absurd (cc e);
    operands = λ t. record { left = λ e. absurd (cc e); right = λ e. t.right (ap takes_right role) };
    guards = λ g. g;
    reads = λ r e. e;
    names = λ y e. named_at (Node y) f.nodes j n there e;
    label = λ e. absurd (cc e);
  }

  given : (regs : ℕ → ℕ) (c : Computes) (h : ℕ → Answer) → Obeys regs c h 0 (with_node f j m).nodes
      → h j ≡ if_matched (met h n.guard) (first regs h n.left)
  given regs c h obeys =
      obeys_at regs c h 0 (with_node f j m).nodes obeys j m j (omega arith) (set_here f.nodes j n m there)

  as_one : (regs : ℕ → ℕ) (h : ℕ → Answer) (a : ℕ → ℕ → ℕ)
      → if_matched (met h n.guard) (of_one (λ (x : ℕ). a x 0) (first regs h n.left)) ≡ gives regs h a n
  as_one regs h a =
      sym (ap (λ (z : Role). if_matched (met h n.guard) (rules.gives z a (first regs h n.left) (first regs h n.right)))
      role)

  copy_acts : (l r : Answer) → act_tokens General m l r ≡ []
  copy_acts None r = refl
  copy_acts (Some Null) r = refl
  copy_acts (Some (Word x)) None = refl
  copy_acts (Some (Word x)) (Some Null) = refl
  copy_acts (Some (Word x)) (Some (Word y)) = refl

  test_acts : (l r : Answer) → act_tokens Immediate n l r ≡ []
  test_acts None r = refl
  test_acts (Some Null) r = refl
  test_acts (Some (Word x)) None = refl
  test_acts (Some (Word x)) (Some Null) = refl
  test_acts (Some (Word x)) (Some (Word y)) = ap (λ (o : Op). cond (divides o) (Divided y ∷ []) []) tells

  deeds : (regs : ℕ → ℕ) (h : ℕ → Answer) → SameDeeds regs h n m
  deeds regs h = record {
    stored = λ k. sym (ap (λ (x : Form). stored_in x regs h n k) form);
    acts = ap (λ (l : List Act). cond (met h n.guard) l [])
        (copy_acts (first regs h n.left) (first regs h n.right)
        ∙ sym (test_acts (first regs h n.left) (first regs h n.right))
        ∙ sym (ap (λ (x : Form). act_tokens x n (first regs h n.left) (first regs h n.right)) form));
  }

  quiet_old : (t : Answer) → leaving_in Immediate n t ≡ []
  quiet_old None = refl
  quiet_old (Some t) = refl

  quiet_new : (t : Answer) → leaving_in General m t ≡ []
  quiet_new None = refl
  quiet_new (Some t) = refl

  module _ (regs : ℕ → ℕ) (mem : List ℕ) (h : ℕ → Answer) where
    abbrev st : ℕ → Option Stored
    st = stores regs h (with_node f j m).nodes

    abbrev seen : ℕ → ℕ
    seen a = bytes_seen st (slice_index mem) n.number a (size_of n.op)

    test_word : (x : ℕ) → meant st mem j n x 0 ≡ alu_of op.Tnei x 0
    test_word x =
        ap (λ (z : Form). form_computes z (inst_of n) seen x 0) form
        ∙ (ap (λ (o : Op). alu_of o x (word n.imm)) tells ∙ ap (λ (i : ℤ). alu_of op.Tnei x (word i)) zero)

    start_token : Obeys regs (meant st mem) h 0 (with_node f j m).nodes → h j ≡ gives regs h (meant st mem j n) n
    start_token obeys =
        let b = bits_given regs h st mem f.nodes j
        (λ k x d e. obeys_at regs (meant st mem) h 0 (with_node f j m).nodes obeys k x k (omega arith)
        (set_there f.nodes j k m d ∙ e)) n.left bits in
        given regs (meant st mem) h obeys
        ∙ (ap (if_matched (met h n.guard)) (sym (same_token (first regs h n.left) b)
        ∙ sym (ap (λ (a : ℕ → ℕ). of_one a (first regs h n.left)) (fun_ext (λ (x : ℕ). test_word x))))
        ∙ as_one regs h (meant st mem j n))

  -- and does what the test did
  pub copy_works : Works f j n m
  copy_works = record {
    path = λ regs c h obeys. record {
      computes = λ x y. x;
      is = given regs c h obeys ∙ (ap (if_matched (met h n.guard)) (identity (first regs h n.left))
          ∙ as_one regs h (λ (x y : ℕ). x));
    };
    tidy = λ regs c h obeys t. record {
      clear = all_at (λ (x : FlowNode). guard_token h x.guard ≢ Some Null) f.nodes t.clear j n there;
      operands = all_at (AtMostOne regs h) f.nodes t.operands j n there;
    };
    outputs = λ h. record {
      leaves = quiet_new (h j) ∙ sym (ap (λ (x : Form). leaving_in x n (h j)) form ∙ quiet_old (h j));
      numbered = λ k. sym (ap (λ (x : Form). numbered x n (h j) k) form);
    };
    deeds = λ regs mem h obeys. deeds regs h;
    start = start_token;
  }
