-- The rule by which a node that tells whether a test does not hold is the opposite test.
use Rattle.std.proofs.Common.{◌≡◌, ◌≢◌, ℕ, ◌<◌, List, [], ◌⊎◌, inl, inr, refl, sym, ap, subst, ◌∙◌, arith}
use Rattle.std.proofs.Common.{Bool, true, false, ◌||◌}
use Rattle.std.specs.Prelude.{ℤ, Some, None, Option, All, slice_get, slice_index}
use Rattle.std.proofs.lemmas.Bool.{or_cases}
use Rattle.std.proofs.lemmas.List.Elements.{All-head}
use Rattle.trips_isa.specs.declared.op.Op.{Op}
use Rattle.trips_isa.specs.declared.op.Op.TheVariants as op
use Rattle.trips_isa.specs.declared.form.Form.{Form}
use Rattle.trips_isa.specs.declared.form.Form.TheVariants.{General, Immediate}
use Rattle.trips_isa.specs.declared.form.Role.{Role}
use Rattle.trips_isa.specs.declared.form.Role.TheVariants.{One, Both}
use Rattle.trips_isa.specs.declared.block.Token.TheVariants.{Null, Word}
use Rattle.trips_isa.specs.declared.block.Stored.{Stored}
use Rattle.trips_isa.specs.Alu.{alu_of, word}
use Rattle.trips_isa.specs.Blocks.{form_computes}
use Rattle.trips_isa.specs.Faults.{divides}
use Rattle.trips_isa.specs.Forms.{form_of, role_of, size_of, takes_left, takes_right}
use Rattle.trips_isa.specs.Rule as rules
use Rattle.trips_isa.specs.Rule.{Answer, if_matched, of_one, of_both}
use Rattle.trips_isa.specs.Stores.{bytes_seen}
use Rattle.ir_forms.specs.declared.flow.FlowSource.{FlowSource}
use Rattle.ir_forms.specs.declared.flow.FlowSource.TheVariants.{Read, Node}
use Rattle.ir_forms.specs.declared.flow.FlowNode.{FlowNode}
use Rattle.ir_forms.specs.declared.flow.FlowBlock.{FlowBlock}
use Rattle.ir_forms.specs.inside.FlowRuns.{Computes, Obeys, gives, meant, stores, first, met, inst_of, guard_token}
use Rattle.ir_forms.specs.inside.FlowRuns.{word_or}
use Rattle.ir_forms.specs.inside.FlowFits.{FitsNode, FitsNodeForm, RisesFrom, HasOrder, AtMostOne}
use Rattle.ir_forms.specs.inside.FlowRegular.{is_among, guards_by, nodes_name}
use Rattle.flow_fold.specs.inside.Opposites.{with_opposite}
use Rattle.flow_fold.specs.inside.Folds.{with_node}
use Rattle.flow_fold.proofs.Places.{all_at, set_here, set_there}
use Rattle.flow_fold.proofs.Echoes.{obeys_at, echoed}
use Rattle.flow_fold.proofs.Names.{named_at, or_first, or_second}
use Rattle.flow_fold.proofs.Turned.{Written, Works}
use Rattle.flow_fold.proofs.Forwarded.{rises_on, or_none}
use Rattle.flow_fold.proofs.OffsetRules.{one_behind}
use Rattle.flow_fold.proofs.Quiet.{only_computes, Quiet, no_load, no_store, not_silent, quiet_deeds, quiet_outputs}
use Rattle.flow_fold.proofs.SumRules.{if_fires}
use Rattle.flow_fold.proofs.OppositeFacts.{Opposed}

-- what is computed of what is computed of two operands
both_behind : (u k : ℕ → ℕ → ℕ) (d : ℕ → ℕ) → ((x y : ℕ) → u x y ≡ d (k x y)) → (l r : Answer)
    → of_both u l r ≡ of_one d (of_both k l r)
both_behind u k d e None r = refl
both_behind u k d e (Some Null) None = refl
both_behind u k d e (Some Null) (Some t) = refl
both_behind u k d e (Some (Word x)) None = refl
both_behind u k d e (Some (Word x)) (Some Null) = refl
both_behind u k d e (Some (Word x)) (Some (Word y)) = ap (λ (i : ℕ). Some (Word i)) (e x y)

forms_apart : (x : Form) → x ≡ General → x ≡ Immediate → ⊥
forms_apart x e d = absurd (let z = sym e ∙ d in cc)

module _ (f : FlowBlock) (j : ℕ) (n : FlowNode) (there : slice_get f.nodes j ≡ Some n) (c : FlowNode) (p : Op)
    (s : Opposed f.nodes j n c p) where
  abbrev m : FlowNode
  m = with_opposite n c p

  old_form : form_of n.op ≡ Immediate
  old_form = ap form_of s.tells

  old_role : role_of n.op ≡ One
  old_role = ap role_of s.tells

  old_quiet : Quiet n
  old_quiet = record { computes = ap only_computes old_form; calm = ap divides s.tells }

  new_quiet : Quiet m
  new_quiet = record { computes = go s.opposite.shape; calm = s.opposite.calm }
    where
      go : ((form_of c.op ≡ General) × (role_of c.op ≡ Both)) ⊎ ((form_of c.op ≡ Immediate) × (role_of c.op ≡ One))
          → only_computes (form_of p) ≡ true
      go (inl d) = ap only_computes (s.opposite.form ∙ d.0)
      go (inr d) = ap only_computes (s.opposite.form ∙ d.0)

  -- AS IT IS WRITTEN

  form_fits : FitsNodeForm (form_of c.op) c → FitsNodeForm Immediate n → FitsNodeForm (form_of p) m
  form_fits a b = subst (λ (x : Form). FitsNodeForm x m) (sym s.opposite.form) (go s.opposite.shape)
    where
      go : ((form_of c.op ≡ General) × (role_of c.op ≡ Both)) ⊎ ((form_of c.op ≡ Immediate) × (role_of c.op ≡ One))
          → FitsNodeForm (form_of c.op) m
      go (inl d) = subst (λ (x : Form). FitsNodeForm x m) (sym d.0)
          ((subst (λ (x : Form). FitsNodeForm x c) d.0 a).0, b.1)
      go (inr d) = subst (λ (x : Form). FitsNodeForm x m) (sym d.0)
          ((subst (λ (x : Form). FitsNodeForm x c) d.0 a).0, b.1)

  takes_left_too : takes_left (role_of p) ≡ true
  takes_left_too = go s.opposite.shape
    where
      go : ((form_of c.op ≡ General) × (role_of c.op ≡ Both)) ⊎ ((form_of c.op ≡ Immediate) × (role_of c.op ≡ One))
          → takes_left (role_of p) ≡ true
      go (inl d) = ap takes_left (s.opposite.role ∙ d.1)
      go (inr d) = ap takes_left (s.opposite.role ∙ d.1)

  bare_right : takes_right (role_of p) ≡ false → c.right ≡ []
  bare_right e = go s.opposite.shape s.right
    where
      go : ((form_of c.op ≡ General) × (role_of c.op ≡ Both)) ⊎ ((form_of c.op ≡ Immediate) × (role_of c.op ≡ One))
          → (form_of c.op ≡ General) ⊎ (c.right ≡ []) → c.right ≡ []
      go (inl d) x = absurd (let z = ap takes_right (sym (s.opposite.role ∙ d.1)) ∙ e in cc z)
      go (inr d) (inl x) = absurd (forms_apart (form_of c.op) x d.0)
      go (inr d) (inr x) = x

  low : (rank : ℕ → ℕ) → HasOrder f rank → rank s.place < rank j
  low rank order = All-head (RisesFrom rank (rank j)) (Node s.place) []
      (subst (λ (z : List FlowSource). All (RisesFrom rank (rank j)) z) s.sources (order.sources j n there).left)

  read_stays : (r : ℕ)
      → (is_among (Read r) n.left || (is_among (Read r) n.right || guards_by (Read r) n.guard)) ≡ true
      → (is_among (Read r) c.left || (is_among (Read r) c.right || guards_by (Read r) n.guard)) ≡ true
  read_stays r e =
      let a : (is_among (Read r) n.right || guards_by (Read r) n.guard) ≡ true =
      subst (λ (z : List FlowSource). (is_among (Read r) z || (is_among (Read r) n.right
      || guards_by (Read r) n.guard)) ≡ true) s.sources e in
      let b : guards_by (Read r) n.guard ≡ true =
      subst (λ (z : List FlowSource). (is_among (Read r) z || guards_by (Read r) n.guard) ≡ true) s.bare a in
      or_second (is_among (Read r) c.left) (is_among (Read r) c.right || guards_by (Read r) n.guard)
      (or_second (is_among (Read r) c.right) (guards_by (Read r) n.guard) b)

  names_too : (y : ℕ) → (is_among (Node y) c.left ≡ true)
      ⊎ ((is_among (Node y) c.right || guards_by (Node y) n.guard) ≡ true) → nodes_name (Node y) f.nodes ≡ true
  names_too y (inl e) = named_at (Node y) f.nodes s.place c s.there
      (or_first (is_among (Node y) c.left) (is_among (Node y) c.right || guards_by (Node y) c.guard) e)
  names_too y (inr e) = go (or_cases (is_among (Node y) c.right) (guards_by (Node y) n.guard) e)
    where
      go : (is_among (Node y) c.right ≡ true) ⊎ (guards_by (Node y) n.guard ≡ true)
          → nodes_name (Node y) f.nodes ≡ true
      go (inl d) = named_at (Node y) f.nodes s.place c s.there
          (or_second (is_among (Node y) c.left) (is_among (Node y) c.right || guards_by (Node y) c.guard)
          (or_first (is_among (Node y) c.right) (guards_by (Node y) c.guard) d))
      go (inr d) = named_at (Node y) f.nodes j n there
          (or_second (is_among (Node y) n.left) (is_among (Node y) n.right || guards_by (Node y) n.guard)
          (or_second (is_among (Node y) n.right) (guards_by (Node y) n.guard) d))

  -- it may be written
  pub opposite_written : Written f j n m
  opposite_written = record {
    fits = λ all a.
        let b = all_at (FitsNode f) f.nodes all s.place c s.there in
        record {
          form = form_fits b.form (subst (λ (x : Form). FitsNodeForm x n) old_form a.form);
          guard = a.guard;
          left = b.left;
          right = b.right;
        };
    rises = λ rank order.
        let a = order.sources s.place c s.there in
        record {
          left = rises_on rank (rank s.place) (rank j) (low rank order) c.left a.left;
          right = rises_on rank (rank s.place) (rank j) (low rank order) c.right a.right;
          guard = (order.sources j n there).guard;
        };
    load = λ e. absurd (no_load (form_of p) new_quiet.computes e);
    store = λ e. absurd (no_store (form_of p) new_quiet.computes e);
    silent = λ e. absurd (not_silent (form_of p) new_quiet.computes e);
    operands = λ t. record {
      left = λ e. absurd (let z = sym takes_left_too ∙ e in cc z);
      right = λ e. bare_right e;
    };
    guards = λ g. g;
    reads = read_stays;
    names = λ y e. names_too y (or_cases (is_among (Node y) c.left)
        (is_among (Node y) c.right || guards_by (Node y) n.guard) e);
    label = λ e. absurd (let z = sym s.opposite.label ∙ e in cc z);
  }

  -- ON A PATH

  roles_behind : (u k : ℕ → ℕ → ℕ) (d : ℕ → ℕ) → ((x y : ℕ) → u x y ≡ d (k x y)) → (l r : Answer)
      → rules.gives (role_of p) u l r ≡ of_one d (rules.gives (role_of c.op) k l r)
  roles_behind u k d e l r =
      ap (λ (z : Role). rules.gives z u l r) s.opposite.role ∙ go s.opposite.shape
    where
      go : ((form_of c.op ≡ General) × (role_of c.op ≡ Both)) ⊎ ((form_of c.op ≡ Immediate) × (role_of c.op ≡ One))
          → rules.gives (role_of c.op) u l r ≡ of_one d (rules.gives (role_of c.op) k l r)
      go (inl x) = subst (λ (z : Role). rules.gives z u l r ≡ of_one d (rules.gives z k l r)) (sym x.1)
          (both_behind u k d e l r)
      go (inr x) = subst (λ (z : Role). rules.gives z u l r ≡ of_one d (rules.gives z k l r)) (sym x.1)
          (one_behind (λ (y : ℕ). u y 0) (λ (y : ℕ). k y 0) d (λ y. e y 0) l)

  module _ (regs : ℕ → ℕ) (k : Computes) (h : ℕ → Answer) (obeys : Obeys regs k h 0 (with_node f j m).nodes) where
    test_token : met h n.guard ≡ true → first regs h n.left
        ≡ rules.gives (role_of c.op) (k s.place c) (first regs h c.left) (first regs h c.right)
    test_token e =
        ap (first regs h) s.sources
        ∙ (or_none (h s.place)
        ∙ (obeys_at regs k h 0 (with_node f j m).nodes obeys s.place c s.place (omega arith)
        (set_there f.nodes j s.place m s.apart ∙ s.there)
        ∙ ap (λ (b : Bool). if_matched b (rules.gives (role_of c.op) (k s.place c) (first regs h c.left)
        (first regs h c.right))) (fires s.guard)))
      where
        fires : (c.guard ≡ None) ⊎ (c.guard ≡ n.guard) → met h c.guard ≡ true
        fires (inl d) = ap (met h) d
        fires (inr d) = ap (met h) d ∙ e

    given : h j ≡ gives regs h (k j m) m
    given = obeys_at regs k h 0 (with_node f j m).nodes obeys j m j (omega arith) (set_here f.nodes j n m there)

    -- what the node gives is what it gave of the test
    as_before : (u d : ℕ → ℕ → ℕ) → ((x y : ℕ) → u x y ≡ d (k s.place c x y) 0) → gives regs h u m ≡ gives regs h d n
    as_before u d e =
        if_fires (met h n.guard) (rules.gives (role_of p) u (first regs h c.left) (first regs h c.right))
        (of_one (λ (x : ℕ). d x 0) (first regs h n.left))
        (λ q. roles_behind u (k s.place c) (λ (x : ℕ). d x 0) e (first regs h c.left) (first regs h c.right)
        ∙ ap (of_one (λ (x : ℕ). d x 0)) (sym (test_token q)))
        ∙ sym (ap (λ (x : Role). if_matched (met h n.guard) (rules.gives x d (first regs h n.left)
        (first regs h n.right))) old_role)

    path_token : h j ≡ gives regs h (λ (x y : ℕ). word_or (h j) 0) n
    path_token =
        echoed regs h (h j) (k j m) m given
        ∙ as_before (λ (x y : ℕ). word_or (h j) 0) (λ (x y : ℕ). word_or (h j) 0) (λ x y. refl)

  -- IN A START

  module _ (regs : ℕ → ℕ) (mem : List ℕ) (h : ℕ → Answer)
      (obeys : Obeys regs (meant (stores regs h (with_node f j m).nodes) mem) h 0 (with_node f j m).nodes) where
    abbrev st : ℕ → Option Stored
    st = stores regs h (with_node f j m).nodes

    -- what a load would see
    abbrev seen : FlowNode → ℕ → ℕ
    seen x a = bytes_seen st (slice_index mem) x.number a (size_of x.op)

    told_word : (x : ℕ) → meant st mem j n x 0 ≡ alu_of op.Teqi x 0
    told_word x =
        ap (λ (z : Form). form_computes z (inst_of n) (seen n) x 0) old_form
        ∙ (ap (λ (o : Op). alu_of o x (word n.imm)) s.tells ∙ ap (λ (i : ℤ). alu_of op.Teqi x (word i)) s.zero)

    new_word : (x y : ℕ) → meant st mem j m x y ≡ alu_of op.Teqi (meant st mem s.place c x y) 0
    new_word x y =
        ap (λ (z : Form). form_computes z (inst_of m) (seen m) x y) s.opposite.form ∙ go s.opposite.shape
      where
        go : ((form_of c.op ≡ General) × (role_of c.op ≡ Both)) ⊎ ((form_of c.op ≡ Immediate) × (role_of c.op ≡ One))
            → form_computes (form_of c.op) (inst_of m) (seen m) x y
            ≡ alu_of op.Teqi (form_computes (form_of c.op) (inst_of c) (seen c) x y) 0
        go (inl d) = subst (λ (z : Form). form_computes z (inst_of m) (seen m) x y
            ≡ alu_of op.Teqi (form_computes z (inst_of c) (seen c) x y) 0) (sym d.0) (s.opposite.same x y)
        go (inr d) = subst (λ (z : Form). form_computes z (inst_of m) (seen m) x y
            ≡ alu_of op.Teqi (form_computes z (inst_of c) (seen c) x y) 0) (sym d.0)
            (s.opposite.same x (word c.imm))

    start_token : h j ≡ gives regs h (meant st mem j n) n
    start_token =
        given regs (meant st mem) h obeys
        ∙ as_before regs (meant st mem) h obeys (meant st mem j m) (meant st mem j n)
        (λ x y. new_word x y ∙ sym (told_word (meant st mem s.place c x y)))

  -- it does what the node did
  pub opposite_works : Works f j n m
  opposite_works = record {
    path = λ regs a h o. record { computes = λ x y. word_or (h j) 0; is = path_token regs a h o };
    tidy = λ regs a h o t. record {
      clear = all_at (λ (x : FlowNode). guard_token h x.guard ≢ Some Null) f.nodes t.clear j n there;
      operands = all_at (AtMostOne regs h) f.nodes t.operands s.place c s.there;
    };
    outputs = λ h. quiet_outputs h j n m old_quiet new_quiet;
    deeds = λ regs mem h o. quiet_deeds regs h n m old_quiet new_quiet;
    start = λ regs mem h o. start_token regs mem h o;
  }
