-- The rule by which a node takes its operands the other way round.
use Rattle.std.proofs.Common.{◌≡◌, ◌≢◌, ℕ, ◌%◌, ◌^◌, refl, sym, ap, subst, ◌∙◌, arith, cond, nat_eq}
use Rattle.std.proofs.Common.{Bool, true, false, ◌||◌, List}
use Rattle.std.specs.Prelude.{ℤ, pos, Some, None, Option, slice_get, slice_index}
use Rattle.std.proofs.Math.Nat.{add_comm, mul_comm}
use Rattle.std.proofs.lemmas.Cmp.{nat_eq_equiv}
use Rattle.std.proofs.lemmas.Nat.{and_comm, or_comm, xor_comm}
use Rattle.std.proofs.lemmas.Option.{same_Some}
use Rattle.trips_isa.specs.declared.op.Op.{Op}
use Rattle.trips_isa.specs.declared.op.Op.TheVariants as op
use Rattle.trips_isa.specs.declared.form.Form.{Form}
use Rattle.trips_isa.specs.declared.form.Form.TheVariants.{General}
use Rattle.trips_isa.specs.declared.form.Role.{Role}
use Rattle.trips_isa.specs.declared.form.Role.TheVariants.{Both}
use Rattle.trips_isa.specs.declared.block.Token.TheVariants.{Null, Word}
use Rattle.trips_isa.specs.declared.block.Stored.{Stored}
use Rattle.trips_isa.specs.Alu.{alu_of, test}
use Rattle.trips_isa.specs.Blocks.{form_computes}
use Rattle.trips_isa.specs.Faults.{divides}
use Rattle.trips_isa.specs.Forms.{form_of, role_of, size_of, takes_left, takes_right}
use Rattle.trips_isa.specs.Rule as rules
use Rattle.trips_isa.specs.Rule.{Answer, if_matched, of_both}
use Rattle.trips_isa.specs.Stores.{bytes_seen}
use Rattle.ir_forms.specs.declared.flow.FlowSource.TheVariants.{Read, Node}
use Rattle.ir_forms.specs.declared.flow.FlowNode.{FlowNode}
use Rattle.ir_forms.specs.declared.flow.FlowBlock.{FlowBlock}
use Rattle.ir_forms.specs.inside.FlowRuns.{Computes, Obeys, gives, meant, stores, first, met, inst_of, guard_token}
use Rattle.ir_forms.specs.inside.FlowFits.{FitsNodeForm, AtMostOne}
use Rattle.ir_forms.specs.inside.FlowRegular.{is_among, guards_by}
use Rattle.flow_fold.specs.inside.Mirrors.{mirror_of, mirrored}
use Rattle.flow_fold.specs.inside.Folds.{with_node}
use Rattle.flow_fold.specs.inside.Replaces.{names_label, Immediates, LeavesOwn, with_immediate}
use Rattle.flow_fold.proofs.Places.{all_at, set_here}
use Rattle.flow_fold.proofs.Echoes.{obeys_at}
use Rattle.flow_fold.proofs.Names.{named_at}
use Rattle.flow_fold.proofs.Turned.{Written, Works}
use Rattle.flow_fold.proofs.Quiet.{only_computes, Quiet, no_load, no_store, not_silent, quiet_deeds, quiet_outputs}

-- p gives of two operands what o gives of them the other way round
pub record MirrorOf (o p : Op) : Type 0 where
  pub old_form : form_of o ≡ General
  pub new_form : form_of p ≡ General
  pub old_role : role_of o ≡ Both
  pub new_role : role_of p ≡ Both
  pub old_calm : divides o ≡ false
  pub new_calm : divides p ≡ false
  pub label : names_label p ≡ false
  pub same : (a b : ℕ) → alu_of p b a ≡ alu_of o a b

row : {o p : Op} → form_of o ≡ General → form_of p ≡ General → role_of o ≡ Both → role_of p ≡ Both
    → divides o ≡ false → divides p ≡ false → names_label p ≡ false → ((a b : ℕ) → alu_of p b a ≡ alu_of o a b)
    → MirrorOf o p
row a b c d e f g s = record {
  old_form = a;
  new_form = b;
  old_role = c;
  new_role = d;
  old_calm = e;
  new_calm = f;
  label = g;
  same = s;
}

equal_turned : (a b : ℕ) → nat_eq b a ≡ nat_eq a b
equal_turned a b = nat_eq_equiv.symm b a

-- each pair of the table is such
pub mirror_is : (o p : Op) → mirror_of o ≡ Some p → MirrorOf o p
mirror_is op.Add p e = subst (MirrorOf op.Add) (same_Some op.Add p e)
    (row refl refl refl refl refl refl refl (λ a b. ap (λ (x : ℕ). x % 2 ^ 64) (add_comm b a)))
mirror_is op.Mul p e = subst (MirrorOf op.Mul) (same_Some op.Mul p e)
    (row refl refl refl refl refl refl refl (λ a b. ap (λ (x : ℕ). x % 2 ^ 64) (mul_comm b a)))
mirror_is op.And p e = subst (MirrorOf op.And) (same_Some op.And p e)
    (row refl refl refl refl refl refl refl (λ a b. and_comm b a))
mirror_is op.Or p e = subst (MirrorOf op.Or) (same_Some op.Or p e)
    (row refl refl refl refl refl refl refl (λ a b. or_comm b a))
mirror_is op.Xor p e = subst (MirrorOf op.Xor) (same_Some op.Xor p e)
    (row refl refl refl refl refl refl refl (λ a b. xor_comm b a))
mirror_is op.Teq p e = subst (MirrorOf op.Teq) (same_Some op.Teq p e)
    (row refl refl refl refl refl refl refl (λ a b. ap test (equal_turned a b)))
mirror_is op.Tne p e = subst (MirrorOf op.Tne) (same_Some op.Tne p e)
    (row refl refl refl refl refl refl refl (λ a b. ap (λ (x : Bool). test (cond x false true)) (equal_turned a b)))
mirror_is op.Tlt p e =
    subst (MirrorOf op.Tlt) (same_Some op.Tgt p e) (row refl refl refl refl refl refl refl (λ a b. refl))
mirror_is op.Tle p e =
    subst (MirrorOf op.Tle) (same_Some op.Tge p e) (row refl refl refl refl refl refl refl (λ a b. refl))
mirror_is op.Tgt p e =
    subst (MirrorOf op.Tgt) (same_Some op.Tlt p e) (row refl refl refl refl refl refl refl (λ a b. refl))
mirror_is op.Tge p e =
    subst (MirrorOf op.Tge) (same_Some op.Tle p e) (row refl refl refl refl refl refl refl (λ a b. refl))
mirror_is op.Tltu p e =
    subst (MirrorOf op.Tltu) (same_Some op.Tgtu p e) (row refl refl refl refl refl refl refl (λ a b. refl))
mirror_is op.Tleu p e =
    subst (MirrorOf op.Tleu) (same_Some op.Tgeu p e) (row refl refl refl refl refl refl refl (λ a b. refl))
mirror_is op.Tgtu p e =
    subst (MirrorOf op.Tgtu) (same_Some op.Tltu p e) (row refl refl refl refl refl refl refl (λ a b. refl))
mirror_is op.Tgeu p e =
    subst (MirrorOf op.Tgeu) (same_Some op.Tleu p e) (row refl refl refl refl refl refl refl (λ a b. refl))
mirror_is _ p e = absurd (cc)

-- a node whose operation has such another, and the node with that
pub record Mirroring (n m : FlowNode) : Type 0 where
  pub op : Op
  pub mirror : MirrorOf n.op op
  pub is : m ≡ mirrored n op

-- new immediates leave it
pub mirroring_kept : (r : Immediates) → LeavesOwn r → (n m : FlowNode) → Mirroring n m
    → Mirroring (with_immediate r n) (with_immediate r m)
mirroring_kept r own n m c = record {
  op = c.op;
  mirror = c.mirror;
  is = ap (with_immediate r) c.is
      ∙ ap (λ (z : ℤ). record (mirrored n c.op) { imm = z }) (own c.op (pos 0) (omega arith));
}

-- the tokens of two operands the other way round
both_turned : (a d : ℕ → ℕ → ℕ) → ((x y : ℕ) → d y x ≡ a x y) → (l r : Answer) → of_both d r l ≡ of_both a l r
both_turned a d e None None = refl
both_turned a d e None (Some Null) = refl
both_turned a d e None (Some (Word y)) = refl
both_turned a d e (Some Null) None = refl
both_turned a d e (Some Null) (Some Null) = refl
both_turned a d e (Some Null) (Some (Word y)) = refl
both_turned a d e (Some (Word x)) None = refl
both_turned a d e (Some (Word x)) (Some Null) = refl
both_turned a d e (Some (Word x)) (Some (Word y)) = ap (λ (i : ℕ). Some (Word i)) (e x y)

either_way : (a b c : Bool) → (a || (b || c)) ≡ true → (b || (a || c)) ≡ true
either_way true true c e = refl
either_way true false c e = refl
either_way false true c e = refl
either_way false false c e = e

module _ (f : FlowBlock) (j : ℕ) (n : FlowNode) (there : slice_get f.nodes j ≡ Some n) (p : Op)
    (s : MirrorOf n.op p) where
  abbrev m : FlowNode
  m = mirrored n p

  old_quiet : Quiet n
  old_quiet = record { computes = ap only_computes s.old_form; calm = s.old_calm }

  new_quiet : Quiet m
  new_quiet = record { computes = ap only_computes s.new_form; calm = s.new_calm }

  -- it may be written
  pub mirror_written : Written f j n m
  mirror_written = record {
    fits = λ all a. record {
      form = subst (λ (x : Form). FitsNodeForm x m) (sym s.new_form)
          (refl, (subst (λ (x : Form). FitsNodeForm x n) s.old_form a.form).1);
      guard = a.guard;
      left = a.right;
      right = a.left;
    };
    rises = λ rank order. let a = order.sources j n there in
        record { left = a.right; right = a.left; guard = a.guard };
    load = λ e. absurd (no_load (form_of p) new_quiet.computes e);
    store = λ e. absurd (no_store (form_of p) new_quiet.computes e);
    silent = λ e. absurd (not_silent (form_of p) new_quiet.computes e);
    operands = λ t. record {
      left = λ e. absurd (let z = ap takes_left (sym s.new_role) ∙ e in cc z);
      right = λ e. absurd (let z = ap takes_right (sym s.new_role) ∙ e in cc z);
    };
    guards = λ g. g;
    reads = λ r e. either_way (is_among (Read r) n.left) (is_among (Read r) n.right) (guards_by (Read r) n.guard) e;
    names = λ y e. named_at (Node y) f.nodes j n there
        (either_way (is_among (Node y) n.right) (is_among (Node y) n.left) (guards_by (Node y) n.guard) e);
    label = λ e. absurd (let z = sym s.label ∙ e in cc z);
  }

  given : (regs : ℕ → ℕ) (c : Computes) (h : ℕ → Answer) → Obeys regs c h 0 (with_node f j m).nodes
      → h j ≡ gives regs h (c j m) m
  given regs c h obeys =
      obeys_at regs c h 0 (with_node f j m).nodes obeys j m j (omega arith) (set_here f.nodes j n m there)

  as_before : (regs : ℕ → ℕ) (c : Computes) (h : ℕ → Answer) → Obeys regs c h 0 (with_node f j m).nodes
      → (a : ℕ → ℕ → ℕ) → ((x y : ℕ) → c j m y x ≡ a x y) → h j ≡ gives regs h a n
  as_before regs c h obeys a e =
      given regs c h obeys
      ∙ (ap (λ (z : Role). if_matched (met h n.guard) (rules.gives z (c j m) (first regs h n.right)
      (first regs h n.left))) s.new_role
      ∙ (ap (if_matched (met h n.guard)) (both_turned a (c j m) e (first regs h n.left) (first regs h n.right))
      ∙ sym (ap (λ (z : Role). if_matched (met h n.guard) (rules.gives z a (first regs h n.left)
      (first regs h n.right))) s.old_role)))

  module _ (regs : ℕ → ℕ) (mem : List ℕ) (h : ℕ → Answer) where
    abbrev st : ℕ → Option Stored
    st = stores regs h (with_node f j m).nodes

    abbrev seen : FlowNode → ℕ → ℕ
    seen x a = bytes_seen st (slice_index mem) x.number a (size_of x.op)

    same_word : (x y : ℕ) → meant st mem j m y x ≡ meant st mem j n x y
    same_word x y =
        ap (λ (z : Form). form_computes z (inst_of m) (seen m) y x) s.new_form
        ∙ (s.same x y ∙ sym (ap (λ (z : Form). form_computes z (inst_of n) (seen n) x y) s.old_form))

  -- and does what the node did
  pub mirror_works : Works f j n m
  mirror_works = record {
    path = λ regs c h obeys. record {
      computes = λ x y. c j m y x;
      is = as_before regs c h obeys (λ x y. c j m y x) (λ x y. refl);
    };
    tidy = λ regs c h obeys t. record {
      clear = all_at (λ (x : FlowNode). guard_token h x.guard ≢ Some Null) f.nodes t.clear j n there;
      operands = let a = all_at (AtMostOne regs h) f.nodes t.operands j n there in (a.1, a.0);
    };
    outputs = λ h. quiet_outputs h j n m old_quiet new_quiet;
    deeds = λ regs mem h obeys. quiet_deeds regs h n m old_quiet new_quiet;
    start = λ regs mem h obeys. as_before regs (meant (stores regs h (with_node f j m).nodes) mem) h obeys
        (meant (stores regs h (with_node f j m).nodes) mem j n) (same_word regs mem h);
  }
