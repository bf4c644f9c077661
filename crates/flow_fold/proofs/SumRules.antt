-- The rule by which a node adds at once what it adds to a sum.
use Rattle.std.proofs.Common.{◌≡◌, ◌≢◌, ℕ, ◌<◌, ◌+◌, ◌%◌, ◌^◌, List, [], ◌⊎◌, inl, inr, refl, sym, ap, subst}
use Rattle.std.proofs.Common.{◌∙◌, arith, cond, Bool, true, false, ◌||◌}
use Rattle.std.specs.Prelude.{ℤ, Some, None, Option, All, slice_get, slice_index}
use Rattle.std.proofs.lemmas.Bool.{or_cases}
use Rattle.std.proofs.lemmas.List.Elements.{All-head}
use Rattle.std.proofs.lemmas.Option.{same_Some}
use Rattle.trips_isa.specs.declared.form.Form.{Form}
use Rattle.trips_isa.specs.declared.form.Form.TheVariants.{Immediate, Constant}
use Rattle.trips_isa.specs.declared.form.Role.{Role}
use Rattle.trips_isa.specs.declared.form.Role.TheVariants.{One}
use Rattle.trips_isa.specs.declared.block.Token.TheVariants.{Null, Word}
use Rattle.trips_isa.specs.declared.block.Stored.{Stored}
use Rattle.trips_isa.specs.inside.Acts.{Act}
use Rattle.trips_isa.specs.Alu.{alu_of, word}
use Rattle.trips_isa.specs.Blocks.{form_computes}
use Rattle.trips_isa.specs.Faults.{divides}
use Rattle.trips_isa.specs.Forms.{form_of, role_of, role_in, size_of, takes_right}
use Rattle.trips_isa.specs.Rule as rules
use Rattle.trips_isa.specs.Rule.{Answer, if_matched, of_one, of_both}
use Rattle.trips_isa.specs.Stores.{bytes_seen}
use Rattle.ir_forms.specs.declared.flow.FlowSource.{FlowSource}
use Rattle.ir_forms.specs.declared.flow.FlowSource.TheVariants.{Read, Node}
use Rattle.ir_forms.specs.declared.flow.FlowNode.{FlowNode}
use Rattle.ir_forms.specs.declared.flow.FlowBlock.{FlowBlock}
use Rattle.ir_forms.specs.inside.FlowRuns.{Computes, Obeys, gives, meant, stores, first, met, inst_of, guard_token}
use Rattle.ir_forms.specs.inside.FlowRuns.{leaving_in, numbered, act_tokens, stored_in, word_or}
use Rattle.ir_forms.specs.inside.FlowFits.{FitsNode, FitsNodeForm, RisesFrom, HasOrder, AtMostOne}
use Rattle.ir_forms.specs.inside.FlowRegular.{is_among, guards_by, nodes_name}
use Rattle.flow_fold.specs.inside.Immediates.{gives_constant}
use Rattle.flow_fold.specs.inside.Sums.{with_sum}
use Rattle.flow_fold.specs.inside.Folds.{with_node}
use Rattle.flow_fold.proofs.Places.{all_at, set_here, set_there}
use Rattle.flow_fold.proofs.Echoes.{obeys_at, echoed}
use Rattle.flow_fold.proofs.Names.{named_at, or_first, or_second}
use Rattle.flow_fold.proofs.ConstantFacts.{Small, constant_is, small_fits}
use Rattle.flow_fold.proofs.Turned.{Written, Works, SameDeeds}
use Rattle.flow_fold.proofs.Forwarded.{rises_on, or_none}
use Rattle.flow_fold.proofs.OffsetRules.{same_one, one_behind}
use Rattle.flow_fold.proofs.SumFacts.{Adds, by_immediate, at_right, Added}

-- of two operands, the right one being a word, as of one
pub both_as_one : (a : ℕ → ℕ → ℕ) (w : ℕ) (l r : Answer) → r ≡ Some (Word w)
    → of_both a l r ≡ of_one (λ (x : ℕ). a x w) l
both_as_one a w l r e = ap (of_both a l) e ∙ at l
  where
    at : (l : Answer) → of_both a l (Some (Word w)) ≡ of_one (λ (x : ℕ). a x w) l
    at None = refl
    at (Some Null) = refl
    at (Some (Word x)) = refl

-- two answers are one where the node fires
pub if_fires : (b : Bool) (x y : Answer) → (b ≡ true → x ≡ y) → if_matched b x ≡ if_matched b y
if_fires true x y e = e refl
if_fires false x y e = refl

forms_apart : (x : Form) → x ≡ Immediate → x ≡ Constant → ⊥
forms_apart x e d = absurd (let z = sym e ∙ d in cc)

module _ (f : FlowBlock) (j : ℕ) (n : FlowNode) (there : slice_get f.nodes j ≡ Some n) (c : FlowNode) (i : ℤ)
    (s : Added f.nodes j n c i) where
  abbrev m : FlowNode
  m = with_sum n c.left i

  form : form_of n.op ≡ Immediate
  form = s.own.form

  one : role_of n.op ≡ One
  one = ap (λ (x : Form). role_in x n.op) form

  -- AS IT IS WRITTEN

  left_names : (y : ℕ) → (is_among (Node y) c.left ≡ true)
      ⊎ ((is_among (Node y) n.right || guards_by (Node y) n.guard) ≡ true)
      → nodes_name (Node y) f.nodes ≡ true
  left_names y (inl e) = named_at (Node y) f.nodes s.place c s.there
      (or_first (is_among (Node y) c.left) (is_among (Node y) c.right || guards_by (Node y) c.guard) e)
  left_names y (inr e) = named_at (Node y) f.nodes j n there
      (or_second (is_among (Node y) n.left) (is_among (Node y) n.right || guards_by (Node y) n.guard) e)

  left_rises : (rank : ℕ → ℕ) → HasOrder f rank → All (RisesFrom rank (rank j)) c.left
  left_rises rank order =
      let low : rank s.place < rank j = All-head (RisesFrom rank (rank j)) (Node s.place) []
      (subst (λ (z : List FlowSource). All (RisesFrom rank (rank j)) z) s.sources (order.sources j n there).left) in
      rises_on rank (rank s.place) (rank j) low c.left (order.sources s.place c s.there).left

  -- it may be written
  pub sum_written : Written f j n m
  sum_written = record {
    fits = λ all a. record {
      form = (small_fits i s.small, (subst (λ (x : Form). FitsNodeForm x n) form a.form).1);
      guard = a.guard;
      left = (all_at (FitsNode f) f.nodes all s.place c s.there).left;
      right = a.right;
    };
    rises = λ rank order.
        let a = order.sources j n there in
        record { left = left_rises rank order; right = a.right; guard = a.guard };
    load = λ e. absurd (cc e);
    store = λ e. absurd (cc e);
    silent = λ e. absurd (cc e);
    operands = λ t. record {
      left = λ q. absurd (cc q);
      right = λ q. t.right (ap takes_right one);
    };
    guards = λ g. g;
    reads = λ r e. or_second (is_among (Read r) c.left) (is_among (Read r) n.right || guards_by (Read r) n.guard)
        (subst (λ (z : List FlowSource).
        (is_among (Read r) z || (is_among (Read r) n.right || guards_by (Read r) n.guard)) ≡ true) s.sources e);
    names = λ y e. left_names y (or_cases (is_among (Node y) c.left)
        (is_among (Node y) n.right || guards_by (Node y) n.guard) e);
    label = λ e. absurd (cc e);
  }

  -- ON A PATH

  -- what node c computes of the word at its left
  abbrev word_of : (k : Computes) (a : Adds f.nodes c s.first) → ℕ → ℕ
  word_of k (by_immediate a) x = k s.place c x 0
  word_of k (at_right a) x = k s.place c x (k a.constant.place a.constant.node 0 0)

  -- a constant is no sum
  constant_apart : (b : ℤ) (d : Small f.nodes c.right b) → d.place ≢ j
  constant_apart b d e =
      let same : d.node ≡ n = same_Some d.node n
      (sym d.there ∙ (ap (λ (y : ℕ). slice_get f.nodes y) e ∙ there)) in
      forms_apart (form_of n.op) form
      (constant_is n.op (subst (λ (x : FlowNode). gives_constant x.op ≡ true) same d.gives)).form

  module _ (regs : ℕ → ℕ) (k : Computes) (h : ℕ → Answer) (obeys : Obeys regs k h 0 (with_node f j m).nodes) where
    -- what another node gives
    token_at : (y : ℕ) (x : FlowNode) → y ≢ j → slice_get f.nodes y ≡ Some x → h y ≡ gives regs h (k y x) x
    token_at y x d e =
        obeys_at regs k h 0 (with_node f j m).nodes obeys y x y (omega arith) (set_there f.nodes j y m d ∙ e)

    right_token : (b : ℤ) (d : Small f.nodes c.right b)
        → first regs h c.right ≡ Some (Word (k d.place d.node 0 0))
    right_token b d =
        ap (first regs h) d.sources
        ∙ (or_none (h d.place)
        ∙ (token_at d.place d.node (constant_apart b d) d.there
        ∙ (ap (λ (x : Role). if_matched (met h d.node.guard) (rules.gives x (k d.place d.node)
        (first regs h d.node.left) (first regs h d.node.right))) (constant_is d.node.op d.gives).free
        ∙ ap (λ (b : Bool). if_matched b (Some (Word (k d.place d.node 0 0)))) (ap (met h) d.guard))))

    by_role : (a : Adds f.nodes c s.first) → rules.gives (role_of c.op) (k s.place c) (first regs h c.left)
        (first regs h c.right) ≡ of_one (word_of k a) (first regs h c.left)
    by_role (by_immediate a) =
        ap (λ (x : Form). rules.gives (role_in x c.op) (k s.place c) (first regs h c.left) (first regs h c.right))
        a.form
    by_role (at_right a) =
        ap (λ (x : Role). rules.gives x (k s.place c) (first regs h c.left) (first regs h c.right)) a.both
        ∙ both_as_one (k s.place c) (k a.constant.place a.constant.node 0 0) (first regs h c.left)
        (first regs h c.right) (right_token a.number a.constant)

    sum_token : met h n.guard ≡ true → first regs h n.left ≡ of_one (word_of k s.adds) (first regs h c.left)
    sum_token e =
        ap (first regs h) s.sources
        ∙ (or_none (h s.place)
        ∙ (token_at s.place c s.apart s.there
        ∙ (ap (if_matched (met h c.guard)) (by_role s.adds)
        ∙ ap (λ (b : Bool). if_matched b (of_one (word_of k s.adds) (first regs h c.left))) (fires s.guard))))
      where
        fires : (c.guard ≡ None) ⊎ (c.guard ≡ n.guard) → met h c.guard ≡ true
        fires (inl d) = ap (met h) d
        fires (inr d) = ap (met h) d ∙ e

    given : h j ≡ gives regs h (k j m) m
    given = obeys_at regs k h 0 (with_node f j m).nodes obeys j m j (omega arith) (set_here f.nodes j n m there)

    -- what the node gives is what it gave of the sum
    as_before : (u d : ℕ → ℕ → ℕ) → ((l : Answer) → of_one (λ (x : ℕ). u x 0) l
        ≡ of_one (λ (x : ℕ). d x 0) (of_one (word_of k s.adds) l)) → gives regs h u m ≡ gives regs h d n
    as_before u d e =
        if_fires (met h n.guard) (of_one (λ (x : ℕ). u x 0) (first regs h c.left))
        (of_one (λ (x : ℕ). d x 0) (first regs h n.left))
        (λ q. e (first regs h c.left) ∙ ap (of_one (λ (x : ℕ). d x 0)) (sym (sum_token q)))
        ∙ sym (ap (λ (x : Role). if_matched (met h n.guard) (rules.gives x d (first regs h n.left)
        (first regs h n.right))) one)

    path_token : h j ≡ gives regs h (λ (x y : ℕ). word_or (h j) 0) n
    path_token =
        echoed regs h (h j) (k j m) m given
        ∙ as_before (λ (x y : ℕ). word_or (h j) 0) (λ (x y : ℕ). word_or (h j) 0)
        (λ l. same_one (word_or (h j) 0) (word_of k s.adds) l)

  -- IN A START

  module _ (regs : ℕ → ℕ) (mem : List ℕ) (h : ℕ → Answer)
      (obeys : Obeys regs (meant (stores regs h (with_node f j m).nodes) mem) h 0 (with_node f j m).nodes) where
    abbrev st : ℕ → Option Stored
    st = stores regs h (with_node f j m).nodes

    -- what a load would see
    abbrev seen : FlowNode → ℕ → ℕ
    seen x a = bytes_seen st (slice_index mem) x.number a (size_of x.op)

    constant_word : (b : ℤ) (d : Small f.nodes c.right b) → meant st mem d.place d.node 0 0 ≡ word b
    constant_word b d =
        let t = constant_is d.node.op d.gives in
        ap (λ (y : Form). form_computes y (inst_of d.node) (seen d.node) 0 0) t.form
        ∙ (t.word 0 (word d.node.imm) ∙ ap word d.imm)

    sum_word : (a : Adds f.nodes c s.first) (x : ℕ) → word_of (meant st mem) a x ≡ (x + word s.first) % 2 ^ 64
    sum_word (by_immediate a) x =
        ap (λ (y : Form). form_computes y (inst_of c) (seen c) x 0) a.form ∙ a.same x
    sum_word (at_right a) x =
        let w = meant st mem a.constant.place a.constant.node 0 0 in
        ap (λ (y : Form). form_computes y (inst_of c) (seen c) x w) a.general
        ∙ (ap (alu_of c.op x) (constant_word a.number a.constant) ∙ a.same x)

    old_word : (x : ℕ) → meant st mem j n x 0 ≡ (x + word s.second) % 2 ^ 64
    old_word x = ap (λ (y : Form). form_computes y (inst_of n) (seen n) x 0) form ∙ s.own.same x

    same_word : (x : ℕ) → meant st mem j m x 0 ≡ meant st mem j n (word_of (meant st mem) s.adds x) 0
    same_word x =
        s.same x
        ∙ (ap (λ (y : ℕ). (y + word s.second) % 2 ^ 64) (sym (sum_word s.adds x))
        ∙ sym (old_word (word_of (meant st mem) s.adds x)))

    start_token : h j ≡ gives regs h (meant st mem j n) n
    start_token =
        given regs (meant st mem) h obeys
        ∙ as_before regs (meant st mem) h obeys (meant st mem j m) (meant st mem j n)
        (λ l. one_behind (λ (x : ℕ). meant st mem j m x 0) (word_of (meant st mem) s.adds)
        (λ (x : ℕ). meant st mem j n x 0) same_word l)

  -- neither can fault
  calm_acts : (x : FlowNode) → divides x.op ≡ false → (l r : Answer) → act_tokens Immediate x l r ≡ []
  calm_acts x e None r = refl
  calm_acts x e (Some Null) r = refl
  calm_acts x e (Some (Word a)) None = refl
  calm_acts x e (Some (Word a)) (Some Null) = refl
  calm_acts x e (Some (Word a)) (Some (Word b)) = rw e refl

  deeds : (regs : ℕ → ℕ) (h : ℕ → Answer) → SameDeeds regs h n m
  deeds regs h = record {
    stored = λ q. sym (ap (λ (x : Form). stored_in x regs h n q) form);
    acts = ap (λ (l : List Act). cond (met h n.guard) l [])
        (calm_acts m refl (first regs h c.left) (first regs h n.right)
        ∙ sym (calm_acts n s.own.calm (first regs h n.left) (first regs h n.right))
        ∙ sym (ap (λ (x : Form). act_tokens x n (first regs h n.left) (first regs h n.right)) form));
  }

  no_exit : (x : FlowNode) (t : Answer) → leaving_in Immediate x t ≡ []
  no_exit x None = refl
  no_exit x (Some t) = refl

  -- it does what the node did
  pub sum_works : Works f j n m
  sum_works = record {
    path = λ regs a h o. record { computes = λ x y. word_or (h j) 0; is = path_token regs a h o };
    tidy = λ regs a h o t. record {
      clear = all_at (λ (x : FlowNode). guard_token h x.guard ≢ Some Null) f.nodes t.clear j n there;
      operands = (
        (all_at (AtMostOne regs h) f.nodes t.operands s.place c s.there).0,
        (all_at (AtMostOne regs h) f.nodes t.operands j n there).1,
      );
    };
    outputs = λ h. record {
      leaves = no_exit m (h j) ∙ sym (no_exit n (h j)) ∙ sym (ap (λ (x : Form). leaving_in x n (h j)) form);
      numbered = λ q. sym (ap (λ (x : Form). numbered x n (h j) q) form);
    };
    deeds = λ regs mem h o. deeds regs h;
    start = λ regs mem h o. start_token regs mem h o;
  }
