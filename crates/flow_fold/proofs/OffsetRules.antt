-- The rule by which a load or a store takes what its address adds into its offset.
use Rattle.std.proofs.Common.{◌≡◌, ◌≢◌, ℕ, ◌<◌, List, [], ◌∷◌, ◌⊎◌, inl, inr, refl, sym, ap, subst}
use Rattle.std.proofs.Common.{◌∙◌, arith, cond, nat_eq, Bool, true, false, ◌||◌}
use Rattle.std.specs.Prelude.{ℤ, Some, None, Option, All, slice_get, slice_index}
use Rattle.std.proofs.Math.Path.{fun_ext}
use Rattle.std.proofs.lemmas.Bool.{or_cases}
use Rattle.std.proofs.lemmas.List.Elements.{All-head}
use Rattle.trips_isa.specs.declared.op.Op.{Op}
use Rattle.trips_isa.specs.declared.op.Op.TheVariants as op
use Rattle.trips_isa.specs.declared.form.Form.{Form}
use Rattle.trips_isa.specs.declared.form.Form.TheVariants.{General, Immediate, Load, Store, Branch, Constant}
use Rattle.trips_isa.specs.declared.form.Role.{Role}
use Rattle.trips_isa.specs.declared.block.Token.TheVariants.{Null, Word}
use Rattle.trips_isa.specs.declared.block.Stored.{Stored}
use Rattle.trips_isa.specs.inside.Acts.{Accessed}
use Rattle.trips_isa.specs.Alu.{alu_of, word}
use Rattle.trips_isa.specs.Blocks.{form_computes}
use Rattle.trips_isa.specs.Forms.{form_of, role_of, role_in, size_of}
use Rattle.trips_isa.specs.Rule as rules
use Rattle.trips_isa.specs.Rule.{Answer, if_matched, of_one, of_both}
use Rattle.trips_isa.specs.Stores.{address_of, word_store, stored_of, bytes_seen, loaded_at}
use Rattle.ir_forms.specs.declared.flow.FlowSource.{FlowSource}
use Rattle.ir_forms.specs.declared.flow.FlowSource.TheVariants.{Read, Node}
use Rattle.ir_forms.specs.declared.flow.FlowNode.{FlowNode}
use Rattle.ir_forms.specs.declared.flow.FlowBlock.{FlowBlock}
use Rattle.ir_forms.specs.inside.FlowRuns.{Computes, Obeys, gives, meant, stores, first, met, inst_of, guard_token}
use Rattle.ir_forms.specs.inside.FlowRuns.{leaving_in, numbered, act_tokens, stored_in, word_or}
use Rattle.ir_forms.specs.inside.FlowFits.{FitsNode, FitsNodeForm, RisesFrom, HasOrder, AtMostOne}
use Rattle.ir_forms.specs.inside.FlowRegular.{is_among, guards_by, nodes_name}
use Rattle.flow_fold.specs.inside.Offsets.{has_address, with_offset}
use Rattle.flow_fold.specs.inside.Folds.{with_node}
use Rattle.flow_fold.specs.inside.Replaces.{names_label}
use Rattle.flow_fold.proofs.Places.{all_at, set_here, set_there}
use Rattle.flow_fold.proofs.Echoes.{obeys_at, echoed}
use Rattle.flow_fold.proofs.Names.{named_at, or_first, or_second}
use Rattle.flow_fold.proofs.ConstantFacts.{small_fits}
use Rattle.flow_fold.proofs.Turned.{Written, Works, SameDeeds}
use Rattle.flow_fold.proofs.Forwarded.{rises_on, or_none}
use Rattle.flow_fold.proofs.OffsetFacts.{Summed}

-- an operation with an address is a load or a store
pub address_is : (form : Form) → has_address form ≡ true → (form ≡ Load) ⊎ (form ≡ Store)
address_is Load e = inl refl
address_is Store e = inr refl
address_is General e = absurd (cc)
address_is Immediate e = absurd (cc)
address_is Branch e = absurd (cc)
address_is Constant e = absurd (cc)

-- and names no label
no_label : (o : Op) → has_address (form_of o) ≡ true → names_label o ≡ true → ⊥
no_label op.Bro a e = absurd (cc)
no_label op.Callo a e = absurd (cc)
no_label _ a e = absurd (cc)

nil_apart : (s : FlowSource) → ◌≡◌ {A = List FlowSource} [] (s ∷ []) → ⊥
nil_apart s e = absurd (cc)

-- whether an operand is there does not hang on what is computed of it
pub same_one : (w : ℕ) (v : ℕ → ℕ) (l : Answer) → of_one (λ (x : ℕ). w) l ≡ of_one (λ (x : ℕ). w) (of_one v l)
same_one w v None = refl
same_one w v (Some Null) = refl
same_one w v (Some (Word x)) = refl

same_both : (w : ℕ) (v : ℕ → ℕ) (l r : Answer) → of_both (λ (x y : ℕ). w) l r
    ≡ of_both (λ (x y : ℕ). w) (of_one v l) r
same_both w v None r = refl
same_both w v (Some Null) r = refl
same_both w v (Some (Word x)) r = refl

-- an operation on one operand behind another is one operation
pub one_behind : (u v : ℕ → ℕ) (d : ℕ → ℕ) → ((x : ℕ) → u x ≡ d (v x)) → (l : Answer)
    → of_one u l ≡ of_one d (of_one v l)
one_behind u v d e None = refl
one_behind u v d e (Some Null) = refl
one_behind u v d e (Some (Word x)) = ap (λ (i : ℕ). Some (Word i)) (e x)

right_behind : (v : ℕ → ℕ) (l r : Answer) → of_both (λ (x y : ℕ). y) l r ≡ of_both (λ (x y : ℕ). y) (of_one v l) r
right_behind v None r = refl
right_behind v (Some Null) r = refl
right_behind v (Some (Word x)) r = refl

module _ (f : FlowBlock) (j : ℕ) (n : FlowNode) (there : slice_get f.nodes j ≡ Some n) (c : FlowNode) (i : ℤ)
    (s : Summed f.nodes j n c i) (address : has_address (form_of n.op) ≡ true) where
  abbrev m : FlowNode
  m = with_offset n c.left i

  -- AS IT IS WRITTEN

  kind : (form_of n.op ≡ Load) ⊎ (form_of n.op ≡ Store)
  kind = address_is (form_of n.op) address

  form_fits : (x : Form) → has_address x ≡ true → FitsNodeForm x n → FitsNodeForm x m
  form_fits Load a e = (small_fits i s.moves.sum, e.1)
  form_fits Store a e = (small_fits i s.moves.sum, e.1)
  form_fits General a e = absurd (cc)
  form_fits Immediate a e = absurd (cc)
  form_fits Branch a e = absurd (cc)
  form_fits Constant a e = absurd (cc)

  left_names : (y : ℕ) → (is_among (Node y) c.left ≡ true)
      ⊎ ((is_among (Node y) n.right || guards_by (Node y) n.guard) ≡ true)
      → nodes_name (Node y) f.nodes ≡ true
  left_names y (inl e) = named_at (Node y) f.nodes s.place c s.there
      (or_first (is_among (Node y) c.left) (is_among (Node y) c.right || guards_by (Node y) c.guard) e)
  left_names y (inr e) = named_at (Node y) f.nodes j n there
      (or_second (is_among (Node y) n.left) (is_among (Node y) n.right || guards_by (Node y) n.guard) e)

  left_rises : (rank : ℕ → ℕ) → HasOrder f rank → All (RisesFrom rank (rank j)) c.left
  left_rises rank order =
      let low : rank s.place < rank j = All-head (RisesFrom rank (rank j)) (Node s.place) []
      (subst (λ (z : List FlowSource). All (RisesFrom rank (rank j)) z) s.sources (order.sources j n there).left) in
      rises_on rank (rank s.place) (rank j) low c.left (order.sources s.place c s.there).left

  -- it may be written
  pub offset_written : Written f j n m
  offset_written = record {
    fits = λ all a. record {
      form = form_fits (form_of n.op) address a.form;
      guard = a.guard;
      left = (all_at (FitsNode f) f.nodes all s.place c s.there).left;
      right = a.right;
    };
    rises = λ rank order.
        let a = order.sources j n there in
        record { left = left_rises rank order; right = a.right; guard = a.guard };
    load = λ e. (e, refl);
    store = λ e. (e, refl);
    silent = λ e. e;
    operands = λ t. record {
      left = λ q. absurd (nil_apart (Node s.place) (sym (t.left q) ∙ s.sources));
      right = t.right;
    };
    guards = λ g. g;
    reads = λ r e. or_second (is_among (Read r) c.left) (is_among (Read r) n.right || guards_by (Read r) n.guard)
        (subst (λ (z : List FlowSource).
        (is_among (Read r) z || (is_among (Read r) n.right || guards_by (Read r) n.guard)) ≡ true) s.sources e);
    names = λ y e. left_names y (or_cases (is_among (Node y) c.left)
        (is_among (Node y) n.right || guards_by (Node y) n.guard) e);
    label = λ e. absurd (no_label n.op address e);
  }

  -- ON A PATH

  -- what the sum makes of a word
  abbrev moved : ℕ → ℕ
  moved x = alu_of c.op x (word c.imm)

  same_address : (x : ℕ) → address_of (inst_of m) x ≡ address_of (inst_of n) (moved x)
  same_address x = s.moves.same x

  -- what two answers come to where the node fires
  by_guard : {A : Type 0} (h : ℕ → Answer) (none x y : A) → (met h n.guard ≡ true → x ≡ y)
      → cond (met h n.guard) x none ≡ cond (met h n.guard) y none
  by_guard {A} h none x y e = go (met h n.guard) refl
    where
      go : (b : Bool) → met h n.guard ≡ b → cond b x none ≡ cond b y none
      go true q = e q
      go false q = refl

  as_cond : (b : Bool) (t : Answer) → if_matched b t ≡ cond b t None
  as_cond true t = refl
  as_cond false t = refl

  if_fires : (h : ℕ → Answer) (x y : Answer) → (met h n.guard ≡ true → x ≡ y)
      → if_matched (met h n.guard) x ≡ if_matched (met h n.guard) y
  if_fires h x y e =
      as_cond (met h n.guard) x ∙ (by_guard h None x y e ∙ sym (as_cond (met h n.guard) y))

  module _ (regs : ℕ → ℕ) (k : Computes) (h : ℕ → Answer) (obeys : Obeys regs k h 0 (with_node f j m).nodes) where
    abbrev added : ℕ → ℕ
    added x = k s.place c x 0

    sum_token : met h n.guard ≡ true → first regs h n.left ≡ of_one added (first regs h c.left)
    sum_token e =
        ap (first regs h) s.sources
        ∙ (or_none (h s.place)
        ∙ (obeys_at regs k h 0 (with_node f j m).nodes obeys s.place c s.place (omega arith)
        (set_there f.nodes j s.place m s.apart ∙ s.there)
        ∙ (ap (λ (r : Role). if_matched (met h c.guard) (rules.gives r (k s.place c) (first regs h c.left)
        (first regs h c.right))) s.moves.one
        ∙ ap (λ (b : Bool). if_matched b (of_one added (first regs h c.left))) (fires s.guard))))
      where
        fires : (c.guard ≡ None) ⊎ (c.guard ≡ n.guard) → met h c.guard ≡ true
        fires (inl d) = ap (met h) d
        fires (inr d) = ap (met h) d ∙ e

    given : h j ≡ gives regs h (k j m) m
    given = obeys_at regs k h 0 (with_node f j m).nodes obeys j m j (omega arith) (set_here f.nodes j n m there)

    same_kind : (w : ℕ) (l r : Answer) → rules.gives (role_of n.op) (λ (x y : ℕ). w) l r
        ≡ rules.gives (role_of n.op) (λ (x y : ℕ). w) (of_one added l) r
    same_kind w l r = pick kind
      where
        pick : (form_of n.op ≡ Load) ⊎ (form_of n.op ≡ Store) → rules.gives (role_of n.op) (λ (x y : ℕ). w) l r
            ≡ rules.gives (role_of n.op) (λ (x y : ℕ). w) (of_one added l) r
        pick (inl e) =
            ap (λ (x : Form). rules.gives (role_in x n.op) (λ (x y : ℕ). w) l r) e
            ∙ (same_one w added l
            ∙ sym (ap (λ (x : Form). rules.gives (role_in x n.op) (λ (x y : ℕ). w) (of_one added l) r) e))
        pick (inr e) =
            ap (λ (x : Form). rules.gives (role_in x n.op) (λ (x y : ℕ). w) l r) e
            ∙ (same_both w added l r
            ∙ sym (ap (λ (x : Form). rules.gives (role_in x n.op) (λ (x y : ℕ). w) (of_one added l) r) e))

    path_token : h j ≡ gives regs h (λ (x y : ℕ). word_or (h j) 0) n
    path_token =
        echoed regs h (h j) (k j m) m given
        ∙ if_fires h (rules.gives (role_of n.op) (λ (x y : ℕ). word_or (h j) 0) (first regs h c.left)
        (first regs h n.right))
        (rules.gives (role_of n.op) (λ (x y : ℕ). word_or (h j) 0) (first regs h n.left) (first regs h n.right))
        (λ e. same_kind (word_or (h j) 0) (first regs h c.left) (first regs h n.right)
        ∙ ap (λ (l : Answer). rules.gives (role_of n.op) (λ (x y : ℕ). word_or (h j) 0) l (first regs h n.right))
        (sym (sum_token e)))

  -- IN A START

  module _ (regs : ℕ → ℕ) (mem : List ℕ) (h : ℕ → Answer)
      (obeys : Obeys regs (meant (stores regs h (with_node f j m).nodes) mem) h 0 (with_node f j m).nodes) where
    abbrev st : ℕ → Option Stored
    st = stores regs h (with_node f j m).nodes

    -- what a load would see
    abbrev seen : FlowNode → ℕ → ℕ
    seen x a = bytes_seen st (slice_index mem) x.number a (size_of x.op)

    sum_word : (x : ℕ) → meant st mem s.place c x 0 ≡ moved x
    sum_word x = ap (λ (y : Form). form_computes y (inst_of c) (seen c) x 0) s.moves.form

    moved_token : met h n.guard ≡ true → first regs h n.left ≡ of_one moved (first regs h c.left)
    moved_token e =
        sum_token regs (meant st mem) h obeys e
        ∙ ap (λ (g : ℕ → ℕ). of_one g (first regs h c.left)) (fun_ext (λ (x : ℕ). sum_word x))

    -- what hangs on the operands where the node fires, where it is the same of an operand and of what it is moved to
    by_address : {A : Type 0} (none : A) (new old : Answer → A) → ((l : Answer) → new l ≡ old (of_one moved l))
        → cond (met h n.guard) (new (first regs h c.left)) none ≡ cond (met h n.guard) (old (first regs h n.left)) none
    by_address none new old same =
        by_guard h none (new (first regs h c.left)) (old (first regs h n.left))
        (λ e. same (first regs h c.left) ∙ ap old (sym (moved_token e)))

    same_stored : (r l : Answer) → stored_of (inst_of m) l r ≡ stored_of (inst_of n) (of_one moved l) r
    same_stored r None = refl
    same_stored None (Some Null) = refl
    same_stored (Some t) (Some Null) = refl
    same_stored None (Some (Word x)) = refl
    same_stored (Some Null) (Some (Word x)) = refl
    same_stored (Some (Word v)) (Some (Word x)) =
        ap (λ (a : ℕ). Some (word_store (inst_of n) a v)) (same_address x)

    load_acts : (r l : Answer) → act_tokens Load m l r ≡ act_tokens Load n (of_one moved l) r
    load_acts r None = refl
    load_acts r (Some Null) = refl
    load_acts r (Some (Word x)) = ap (λ (a : ℕ). Accessed a (size_of n.op) ∷ []) (same_address x)

    store_acts : (r l : Answer) → act_tokens Store m l r ≡ act_tokens Store n (of_one moved l) r
    store_acts r None = refl
    store_acts r (Some Null) = refl
    store_acts None (Some (Word x)) = refl
    store_acts (Some Null) (Some (Word x)) = refl
    store_acts (Some (Word v)) (Some (Word x)) = ap (λ (a : ℕ). Accessed a (size_of n.op) ∷ []) (same_address x)

    same_acts : (x : Form) → has_address x ≡ true → (r l : Answer)
        → act_tokens x m l r ≡ act_tokens x n (of_one moved l) r
    same_acts Load e r l = load_acts r l
    same_acts Store e r l = store_acts r l
    same_acts General e r l = absurd (cc)
    same_acts Immediate e r l = absurd (cc)
    same_acts Branch e r l = absurd (cc)
    same_acts Constant e r l = absurd (cc)

    stored_same : (x : Form) (q : ℕ) → stored_in x regs h m q ≡ stored_in x regs h n q
    stored_same Store q = ap (λ (o : Option Stored). cond (nat_eq n.number q) o None)
        (by_address None (λ (l : Answer). stored_of (inst_of m) l (first regs h n.right))
        (λ (l : Answer). stored_of (inst_of n) l (first regs h n.right))
        (λ l. same_stored (first regs h n.right) l))
    stored_same General q = refl
    stored_same Immediate q = refl
    stored_same Load q = refl
    stored_same Branch q = refl
    stored_same Constant q = refl

    offset_deeds : SameDeeds regs h n m
    offset_deeds = record {
      stored = λ q. stored_same (form_of n.op) q;
      acts = by_address [] (λ (l : Answer). act_tokens (form_of n.op) m l (first regs h n.right))
          (λ (l : Answer). act_tokens (form_of n.op) n l (first regs h n.right))
          (λ l. same_acts (form_of n.op) address (first regs h n.right) l);
    }

    -- what the node gives of an operand it gave of what this is moved to
    same_word : (x : Form) → has_address x ≡ true → (l r : Answer)
        → rules.gives (role_in x n.op) (form_computes x (inst_of m) (seen m)) l r
        ≡ rules.gives (role_in x n.op) (form_computes x (inst_of n) (seen n)) (of_one moved l) r
    same_word Load e l r =
        one_behind (λ (x : ℕ). loaded_at (inst_of n) (seen n) (address_of (inst_of m) x)) moved
        (λ (x : ℕ). loaded_at (inst_of n) (seen n) (address_of (inst_of n) x))
        (λ x. ap (loaded_at (inst_of n) (seen n)) (same_address x)) l
    same_word Store e l r = right_behind moved l r
    same_word General e l r = absurd (cc)
    same_word Immediate e l r = absurd (cc)
    same_word Branch e l r = absurd (cc)
    same_word Constant e l r = absurd (cc)

    start_token : h j ≡ gives regs h (meant st mem j n) n
    start_token =
        given regs (meant st mem) h obeys
        ∙ if_fires h (rules.gives (role_of n.op) (meant st mem j m) (first regs h c.left) (first regs h n.right))
        (rules.gives (role_of n.op) (meant st mem j n) (first regs h n.left) (first regs h n.right))
        (λ e. same_word (form_of n.op) address (first regs h c.left) (first regs h n.right)
        ∙ ap (λ (l : Answer). rules.gives (role_of n.op) (meant st mem j n) l (first regs h n.right))
        (sym (moved_token e)))

  same_leaves : (x : Form) → has_address x ≡ true → (t : Answer) → leaving_in x m t ≡ leaving_in x n t
  same_leaves Load e t = refl
  same_leaves Store e t = refl
  same_leaves General e t = absurd (cc)
  same_leaves Immediate e t = absurd (cc)
  same_leaves Branch e t = absurd (cc)
  same_leaves Constant e t = absurd (cc)

  same_numbers : (x : Form) (t : Answer) (q : ℕ) → numbered x m t q ≡ numbered x n t q
  same_numbers Store t q = refl
  same_numbers General t q = refl
  same_numbers Immediate t q = refl
  same_numbers Load t q = refl
  same_numbers Branch t q = refl
  same_numbers Constant t q = refl

  -- it does what the node did
  pub offset_works : Works f j n m
  offset_works = record {
    path = λ regs a h o. record { computes = λ x y. word_or (h j) 0; is = path_token regs a h o };
    tidy = λ regs a h o t. record {
      clear = all_at (λ (x : FlowNode). guard_token h x.guard ≢ Some Null) f.nodes t.clear j n there;
      operands = (
        (all_at (AtMostOne regs h) f.nodes t.operands s.place c s.there).0,
        (all_at (AtMostOne regs h) f.nodes t.operands j n there).1,
      );
    };
    outputs = λ h. record {
      leaves = same_leaves (form_of n.op) address (h j);
      numbered = λ q. same_numbers (form_of n.op) (h j) q;
    };
    deeds = λ regs mem h o. offset_deeds regs mem h o;
    start = λ regs mem h o. start_token regs mem h o;
  }
