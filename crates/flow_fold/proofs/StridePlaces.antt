-- Where a node gives what another gives and a small number more, the sum may be put in its place.
use Rattle.std.proofs.Common.{◌≡◌, ◌≢◌, ℕ, ◌<◌, List, [], ◌∷◌, ◌⊎◌, inl, inr, refl, sym, ap}
use Rattle.std.proofs.Common.{subst, ◌∙◌, nat_eq, Bool, true, false, ◌||◌}
use Rattle.std.specs.Prelude.{ℤ, Some, All, slice_get, slice_set}
use Rattle.std.proofs.lemmas.Bool.{or_cases, false≢true, eqb-true}
use Rattle.std.proofs.lemmas.List.Elements.{All-nil, All-cons, All-head}
use Rattle.std.proofs.lemmas.Option.{same_Some, slice_get_within}
use Rattle.trips_isa.specs.Forms.{form_of}
use Rattle.ir_forms.specs.declared.flow.FlowSource.{FlowSource}
use Rattle.ir_forms.specs.declared.flow.FlowSource.TheVariants.{Read, Node}
use Rattle.ir_forms.specs.declared.flow.FlowNode.{FlowNode}
use Rattle.ir_forms.specs.declared.flow.FlowBlock.{FlowBlock}
use Rattle.ir_forms.specs.inside.FlowFits.{FitsFlowSource, RisesFrom, HasOrder, Rises}
use Rattle.ir_forms.specs.inside.FlowRegular.{is_among, guards_by, is_silent, nodes_name}
use Rattle.flow_fold.specs.inside.Copies.{covers}
use Rattle.flow_fold.specs.inside.Strides.{sum_on}
use Rattle.flow_fold.specs.inside.Sweeps.{is_idle}
use Rattle.flow_fold.proofs.Places.{set_there}
use Rattle.flow_fold.proofs.Names.{node_names, named_at, or_first, or_second}
use Rattle.flow_fold.proofs.ConstantFacts.{small_fits}
use Rattle.flow_fold.proofs.Placing.{Placed}
use Rattle.flow_fold.proofs.Forwarded.{rises_on}
use Rattle.flow_fold.proofs.TwinRanks.{behind_ordered, guard_rises, no_load}
use Rattle.flow_fold.proofs.TwinCopies.{not_silent, unread}
use Rattle.flow_fold.proofs.StrideFacts.{Leads, by_scale, by_left, by_right, lead_op, lead_idle, lead_small}

module _ (f : FlowBlock) (i j k : ℕ) (a c n : FlowNode) (b : ℤ) (standing : slice_get f.nodes i ≡ Some a)
    (there : slice_get f.nodes j ≡ Some n) (between : slice_get f.nodes k ≡ Some c) (apart : i ≢ j) (aside : k ≢ j)
    (base_guard : covers a.guard n.guard ≡ true) (step_guard : covers c.guard n.guard ≡ true)
    (ahead : Leads f.nodes k c a n b) where
  abbrev m : FlowNode
  m = sum_on i n b

  base_idle : is_idle a.op ≡ true
  base_idle = ap is_idle (lead_op f.nodes k c a n b ahead) ∙ lead_idle f.nodes k c a n b ahead

  -- AS IT IS WRITTEN

  -- what the other takes is below the node
  base_rises : (rank : ℕ → ℕ) → HasOrder f rank → Rises rank (rank j) a
  base_rises rank order = at ahead
    where
      step_rises : (ss : List FlowSource) → ss ≡ Node k ∷ [] → All (RisesFrom rank (rank j)) ss
          → All (RisesFrom rank (rank j)) c.left
      step_rises ss e x =
          let low : rank k < rank j = All-head (RisesFrom rank (rank j)) (Node k) []
          (subst (λ (z : List FlowSource). All (RisesFrom rank (rank j)) z) e x) in
          rises_on rank (rank k) (rank j) low c.left (order.sources k c between).left

      sources : (ss ls : List FlowSource) → ss ≡ ls → All (RisesFrom rank (rank j)) ls
          → All (RisesFrom rank (rank j)) ss
      sources ss ls e x = subst (λ (z : List FlowSource). All (RisesFrom rank (rank j)) z) (sym e) x

      at : Leads f.nodes k c a n b → Rises rank (rank j) a
      at (by_scale s) =
          let r = order.sources j n there in
          record {
            left = sources a.left c.left s.left (step_rises n.left s.at r.left);
            right = sources a.right n.right s.right r.right;
            guard = guard_rises rank (rank j) n.guard a.guard base_guard r.guard;
          }
      at (by_left s) =
          let r = order.sources j n there in
          record {
            left = sources a.left c.left s.left (step_rises n.left s.at r.left);
            right = sources a.right n.right s.right r.right;
            guard = guard_rises rank (rank j) n.guard a.guard base_guard r.guard;
          }
      at (by_right s) =
          let r = order.sources j n there in
          record {
            left = sources a.left n.left s.left r.left;
            right = sources a.right c.left s.right (step_rises n.right s.at r.right);
            guard = guard_rises rank (rank j) n.guard a.guard base_guard r.guard;
          }

  -- the other takes each register that the node takes
  reads_alike : (r : ℕ) → node_names (Read r) n ≡ true → node_names (Read r) a ≡ true
  reads_alike r e = at ahead
    where
      no_guard : guards_by (Read r) n.guard ≡ guards_by (Read r) a.guard
      no_guard = unread r n.guard ∙ sym (unread r a.guard)

      -- a node at the left takes no register
      at_right_alone : (ls rs : List FlowSource) → ls ≡ Node k ∷ [] → rs ≡ a.right
          → (is_among (Read r) ls || (is_among (Read r) rs || guards_by (Read r) n.guard)) ≡ true
          → (is_among (Read r) a.right || guards_by (Read r) a.guard) ≡ true
      at_right_alone ls rs d q t =
          sym (ap (λ (x : Bool). is_among (Read r) a.right || x) no_guard)
          ∙ (sym (ap (λ (z : List FlowSource). is_among (Read r) z || guards_by (Read r) n.guard) q)
          ∙ (sym (ap (λ (z : List FlowSource).
          is_among (Read r) z || (is_among (Read r) rs || guards_by (Read r) n.guard)) d) ∙ t))

      left_half : (x y g : Bool) → (x || (y || g)) ≡ true → y ≡ false → g ≡ false → x ≡ true
      left_half true y g e p q = refl
      left_half false true g e p q = absurd (false≢true (sym p))
      left_half false false true e p q = absurd (false≢true (sym q))
      left_half false false false e p q = absurd (false≢true e)

      at : Leads f.nodes k c a n b → node_names (Read r) a ≡ true
      at (by_scale s) =
          or_second (is_among (Read r) a.left) (is_among (Read r) a.right || guards_by (Read r) a.guard)
          (at_right_alone n.left n.right s.at (sym s.right) e)
      at (by_left s) =
          or_second (is_among (Read r) a.left) (is_among (Read r) a.right || guards_by (Read r) a.guard)
          (at_right_alone n.left n.right s.at (sym s.right) e)
      at (by_right s) =
          or_first (is_among (Read r) a.left) (is_among (Read r) a.right || guards_by (Read r) a.guard)
          (ap (is_among (Read r)) s.left
          ∙ left_half (is_among (Read r) n.left) (is_among (Read r) n.right) (guards_by (Read r) n.guard) e
          (ap (is_among (Read r)) s.at) (unread r n.guard))

  -- the sum's one source is the other
  place_is : (y : ℕ) → is_among (Node y) (Node i ∷ []) ≡ true → y ≡ i
  place_is y d = at (or_cases (nat_eq y i) false d)
    where
      at : (nat_eq y i ≡ true) ⊎ (false ≡ true) → y ≡ i
      at (inl z) = eqb-true y i z
      at (inr z) = absurd (false≢true z)

  -- neither the other nor the guard's node is silent
  names_none : (y : ℕ) (x : FlowNode) → slice_get f.nodes y ≡ Some x → is_silent (form_of x.op) ≡ true
      → ((is_among (Node y) (Node i ∷ []) ≡ true) ⊎ ((false || guards_by (Node y) n.guard) ≡ true))
      → nodes_name (Node y) f.nodes ≡ true
  names_none y x e s (inr t) =
      named_at (Node y) f.nodes j n there
      (or_second (is_among (Node y) n.left) (is_among (Node y) n.right || guards_by (Node y) n.guard)
      (or_second (is_among (Node y) n.right) (guards_by (Node y) n.guard) t))
  names_none y x e s (inl t) =
      let same : a ≡ x = same_Some a x
      (sym standing ∙ (ap (λ (z : ℕ). slice_get f.nodes z) (sym (place_is y t)) ∙ e)) in
      absurd (not_silent (form_of a.op) a.op base_idle
      (ap (λ (z : FlowNode). is_silent (form_of z.op)) same ∙ s))

  -- it may be put there
  pub sum_placed : Placed f j n m
  sum_placed = record {
    fits = λ all x. record {
      form = (small_fits b (lead_small f.nodes k c a n b ahead), refl);
      guard = x.guard;
      left = All-cons (FitsFlowSource f) (Node i) [] (slice_get_within f.nodes i a standing)
          (All-nil (FitsFlowSource f));
      right = All-nil (FitsFlowSource f);
    };
    orders = λ rank o.
        behind_ordered f i j a n standing there apart (λ e. no_load a.op base_idle e) rank o (base_rises rank o) m
        refl refl refl;
    load = λ e. absurd (cc e);
    store = λ e. absurd (cc e);
    silent = λ e. absurd (false≢true e);
    operands = λ t. record { left = λ e. absurd (false≢true (sym e)); right = λ e. refl };
    guards = λ g. g;
    reads = λ r t. named_at (Read r) (slice_set f.nodes j m) i a (set_there f.nodes j i m apart ∙ standing)
        (reads_alike r t);
    names = λ y x e s t. names_none y x e s
        (or_cases (is_among (Node y) (Node i ∷ [])) (false || guards_by (Node y) n.guard) t);
    label = λ e. absurd (false≢true e);
  }
