-- A node whose right operand moves into its immediate may stand for the node, and does what it did.
use Rattle.std.proofs.Common.{◌≡◌, ◌≢◌, ℕ, ◌≤◌, List, [], refl, sym, ap, subst, ◌∙◌, arith, cond}
use Rattle.std.proofs.Common.{Bool, true, false, ◌||◌}
use Rattle.std.specs.Prelude.{ℤ, Some, None, Option, slice_get, slice_index}
use Rattle.std.proofs.lemmas.List.Elements.{All-nil}
use Rattle.trips_isa.specs.declared.op.Op.{Op}
use Rattle.trips_isa.specs.declared.form.Form.{Form}
use Rattle.trips_isa.specs.declared.form.Form.TheVariants.{General, Immediate, Load, Store}
use Rattle.trips_isa.specs.declared.form.Role.{Role}
use Rattle.trips_isa.specs.declared.form.Role.TheVariants.{Free, One}
use Rattle.trips_isa.specs.declared.block.Token.TheVariants.{Null, Word}
use Rattle.trips_isa.specs.declared.block.Sense.{Sense}
use Rattle.trips_isa.specs.declared.block.Stored.{Stored}
use Rattle.trips_isa.specs.inside.Acts.{Act}
use Rattle.trips_isa.specs.Alu.{alu_of, word}
use Rattle.trips_isa.specs.Blocks.{form_computes}
use Rattle.trips_isa.specs.Forms.{form_of, role_of, role_in, size_of, takes_left}
use Rattle.trips_isa.specs.Rule.{Answer, if_matched, matched, rule, of_one, of_both}
use Rattle.trips_isa.specs.Stores.{bytes_seen}
use Rattle.trips_isa.specs.Tables.{or_else}
use Rattle.ir_forms.specs.declared.flow.FlowSource.{FlowSource}
use Rattle.ir_forms.specs.declared.flow.FlowSource.TheVariants.{Read, Node}
use Rattle.ir_forms.specs.declared.flow.FlowNode.{FlowNode}
use Rattle.ir_forms.specs.declared.flow.FlowBlock.{FlowBlock}
use Rattle.ir_forms.specs.inside.FlowRuns.{Computes, Obeys, gives, meant, stores, first, guard_token, sense_of}
use Rattle.ir_forms.specs.inside.FlowRuns.{inst_of}
use Rattle.ir_forms.specs.inside.FlowRuns.{leaving_in, numbered, act_tokens, stored_in, met}
use Rattle.ir_forms.specs.inside.FlowFits.{AtMostOne, FitsNode, FitsNodeForm, FitsFlowSource}
use Rattle.ir_forms.specs.inside.FlowRegular.{is_among, guards_by, is_silent}
use Rattle.flow_fold.specs.inside.Folds.{with_constant, with_node}
use Rattle.flow_fold.proofs.Places.{all_at, set_here, set_there}
use Rattle.flow_fold.proofs.Echoes.{obeys_at}
use Rattle.flow_fold.proofs.Names.{node_names, named_at}
use Rattle.flow_fold.proofs.ConstantFacts.{ImmediateOf, ConstantOf, constant_is}
use Rattle.flow_fold.proofs.ConstantFacts.{small_fits}
use Rattle.flow_fold.proofs.ConstantFacts.{Small}
use Rattle.flow_fold.proofs.Turned.{Written, Works, SameDeeds, SameOutputs}

-- a constant that nothing guards gives its word
constant_token : (regs : ℕ → ℕ) (h : ℕ → Answer) (a : ℕ → ℕ → ℕ) (c : FlowNode) → role_of c.op ≡ Free → c.guard ≡ None
    → gives regs h a c ≡ Some (Word (a 0 0))
constant_token regs h a c role guard =
    ap (λ (x : Role). rule x (sense_of c.guard) a (first regs h c.left) (first regs h c.right)
    (guard_token h c.guard)) role
    ∙ ap (λ (s : Sense). if_matched (matched s (guard_token h c.guard)) (Some (Word (a 0 0)))) (ap sense_of guard)

-- of two operands, the right one being a word, as of one
both_as_one : (b : Bool) (l : Answer) (w : ℕ) (a d : ℕ → ℕ → ℕ) → ((x : ℕ) → d x 0 ≡ a x w)
    → if_matched b (of_one (λ (x : ℕ). d x 0) l) ≡ if_matched b (of_both a l (Some (Word w)))
both_as_one false l w a d e = refl
both_as_one true None w a d e = refl
both_as_one true (Some Null) w a d e = refl
both_as_one true (Some (Word x)) w a d e = ap (λ (i : ℕ). Some (Word i)) (e x)

one_count : (n : ℕ) → 0 ≤ 1
one_count n = omega arith

weaken : (a b c : Bool) → (a || (false || c)) ≡ true → (a || (b || c)) ≡ true
weaken true b c e = refl
weaken false true c e = refl
weaken false false c e = e

module _ (f : FlowBlock) (j : ℕ) (n : FlowNode) (i : ℤ) (o : Op) (there : slice_get f.nodes j ≡ Some n)
    (s : Small f.nodes n.right i) (p : ImmediateOf n.op o) (apart : s.place ≢ j) where
  abbrev m : FlowNode
  m = with_constant n o i

  one : role_of o ≡ One
  one = ap (λ (x : Form). role_in x o) p.form

  abbrev is_immediate : Form → Bool
  is_immediate Immediate = true
  is_immediate _ = false

  other : (x : Form) → form_of o ≡ x → is_immediate x ≡ true
  other x e = subst (λ (y : Form). is_immediate y ≡ true) (sym p.form ∙ e) refl

  node_fits : FitsNode f n → FitsNode f m
  node_fits a = record {
    form = subst (λ (x : Form). FitsNodeForm x m) (sym p.form)
        (small_fits i s.small, (subst (λ (x : Form). FitsNodeForm x n) p.general a.form).1);
    guard = a.guard;
    left = a.left;
    right = All-nil (FitsFlowSource f);
  }

  read_stays : (r : ℕ) → node_names (Read r) n ≡ true → node_names (Read r) m ≡ true
  read_stays r e = subst (λ (ss : List FlowSource).
      (is_among (Read r) n.left || (is_among (Read r) ss || guards_by (Read r) n.guard)) ≡ true) s.sources e

  -- it may be written
  pub constant_written : Written f j n m
  constant_written = record {
    fits = λ all a. node_fits a;
    rises = λ rank order.
        let a = order.sources j n there in
        record { left = a.left; right = All-nil _; guard = a.guard };
    load = λ e. absurd (let z = other Load e in cc);
    store = λ e. absurd (let z = other Store e in cc);
    silent = λ e. absurd (let z = ap is_silent (sym p.form) ∙ e in cc);
    operands = λ t. record {
      left = λ e. absurd (let z = ap takes_left (sym one) ∙ e in cc);
      right = λ e. refl;
    };
    guards = λ g. g;
    reads = read_stays;
    names = λ y e. named_at (Node y) f.nodes j n there
        (weaken (is_among (Node y) n.left) (is_among (Node y) n.right) (guards_by (Node y) n.guard) e);
    label = λ e. absurd (let z = sym p.label ∙ e in cc);
  }

  constant : ConstantOf s.node.op
  constant = constant_is s.node.op s.gives

  module _ (regs : ℕ → ℕ) (c : Computes) (h : ℕ → Answer) (obeys : Obeys regs c h 0 (with_node f j m).nodes) where
    -- the word of the constant
    abbrev its_word : ℕ
    its_word = c s.place s.node 0 0

    right_token : first regs h n.right ≡ Some (Word its_word)
    right_token =
        ap (first regs h) s.sources
        ∙ ap (λ (t : Answer). or_else t None)
        (obeys_at regs c h 0 (with_node f j m).nodes obeys s.place s.node s.place (omega arith)
        (set_there f.nodes j s.place m apart ∙ s.there)
        ∙ constant_token regs h (c s.place s.node) s.node constant.free s.guard)

    given : h j ≡ gives regs h (c j m) m
    given = obeys_at regs c h 0 (with_node f j m).nodes obeys j m j (omega arith) (set_here f.nodes j n m there)

    as_before : (a : ℕ → ℕ → ℕ) → ((x : ℕ) → c j m x 0 ≡ a x its_word) → h j ≡ gives regs h a n
    as_before a e =
        let b = matched (sense_of n.guard) (guard_token h n.guard) in
        given
        ∙ ap (λ (x : Role). rule x (sense_of n.guard) (c j m) (first regs h n.left) None (guard_token h n.guard)) one
        ∙ both_as_one b (first regs h n.left) its_word a (c j m) e
        ∙ ap (λ (t : Answer). if_matched b (of_both a (first regs h n.left) t)) (sym right_token)
        ∙ ap (λ (x : Role). rule x (sense_of n.guard) a (first regs h n.left) (first regs h n.right)
        (guard_token h n.guard)) (sym p.both)

  outputs : (h : ℕ → Answer) → SameOutputs h j n m
  outputs h = record {
    leaves = none_new (form_of o) p.form ∙ sym (none_old (form_of n.op) p.general);
    numbered = λ k. ap (λ (x : Form). numbered x m (h j) k) p.form
        ∙ sym (ap (λ (x : Form). numbered x n (h j) k) p.general);
  }
    where
      quiet_new : (t : Answer) → leaving_in Immediate m t ≡ []
      quiet_new None = refl
      quiet_new (Some t) = refl

      quiet_old : (t : Answer) → leaving_in General n t ≡ []
      quiet_old None = refl
      quiet_old (Some t) = refl

      none_new : (x : Form) → x ≡ Immediate → leaving_in x m (h j) ≡ []
      none_new x e = ap (λ (y : Form). leaving_in y m (h j)) e ∙ quiet_new (h j)

      none_old : (x : Form) → x ≡ General → leaving_in x n (h j) ≡ []
      none_old x e = ap (λ (y : Form). leaving_in y n (h j)) e ∙ quiet_old (h j)

  general_acts : (l r : Answer) → act_tokens General n l r ≡ []
  general_acts None r = refl
  general_acts (Some Null) r = refl
  general_acts (Some (Word l)) None = refl
  general_acts (Some (Word l)) (Some Null) = refl
  general_acts (Some (Word l)) (Some (Word r)) = rw p.calm refl

  immediate_acts : (l : Answer) → act_tokens Immediate m l None ≡ []
  immediate_acts None = refl
  immediate_acts (Some Null) = refl
  immediate_acts (Some (Word l)) = refl

  deeds : (regs : ℕ → ℕ) (h : ℕ → Answer) → SameDeeds regs h n m
  deeds regs h = record {
    stored = λ k. ap (λ (x : Form). stored_in x regs h m k) p.form
        ∙ sym (ap (λ (x : Form). stored_in x regs h n k) p.general);
    acts = ap (λ (l : List Act). cond (met h n.guard) l [])
        (ap (λ (x : Form). act_tokens x m (first regs h n.left) None) p.form
        ∙ immediate_acts (first regs h n.left)
        ∙ sym (general_acts (first regs h n.left) (first regs h n.right))
        ∙ sym (ap (λ (x : Form). act_tokens x n (first regs h n.left) (first regs h n.right)) p.general));
  }

  module _ (regs : ℕ → ℕ) (mem : List ℕ) (h : ℕ → Answer) where
    -- the stores by number
    abbrev st : ℕ → Option Stored
    st = stores regs h (with_node f j m).nodes

    -- what a node that loads would see
    abbrev seen : FlowNode → ℕ → ℕ
    seen x a = bytes_seen st (slice_index mem) x.number a (size_of x.op)

    new_word : (x : ℕ) → meant st mem j m x 0 ≡ alu_of o x (word i)
    new_word x = ap (λ (y : Form). form_computes y (inst_of m) (seen m) x 0) p.form

    old_word : (x y : ℕ) → meant st mem j n x y ≡ alu_of n.op x y
    old_word x y = ap (λ (z : Form). form_computes z (inst_of n) (seen n) x y) p.general

    constant_word : meant st mem s.place s.node 0 0 ≡ word i
    constant_word =
        ap (λ (y : Form). form_computes y (inst_of s.node) (seen s.node) 0 0) constant.form
        ∙ (constant.word 0 (word s.node.imm) ∙ ap word s.imm)

    -- it does in a start what the node did
    word_of_start : Obeys regs (meant st mem) h 0 (with_node f j m).nodes → h j ≡ gives regs h (meant st mem j n) n
    word_of_start obeys =
        as_before regs (meant st mem) h obeys (meant st mem j n)
        (λ x. new_word x ∙ (p.same x (word i) ∙ (ap (alu_of n.op x) (sym constant_word)
        ∙ sym (old_word x (meant st mem s.place s.node 0 0)))))

  -- it does what the node did
  pub constant_works : Works f j n m
  constant_works = record {
    path = λ regs c h obeys. record {
      computes = λ x y. c j m x 0;
      is = as_before regs c h obeys (λ x y. c j m x 0) (λ x. refl);
    };
    tidy = λ regs c h obeys t. record {
      clear = all_at (λ (x : FlowNode). guard_token h x.guard ≢ Some Null) f.nodes t.clear j n there;
      operands = ((all_at (AtMostOne regs h) f.nodes t.operands j n there).0, omega arith);
    };
    outputs = outputs;
    deeds = λ regs mem h obeys. deeds regs h;
    start = word_of_start;
  }
