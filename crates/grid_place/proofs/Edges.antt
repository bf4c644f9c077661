-- The edges of a moved block are the block's.
use Rattle.std.proofs.Common.{◌≡◌, ℕ, ◌+◌, ◌<◌, Bool, true, false, ◌&&◌, ◌||◌, List}
use Rattle.std.proofs.Common.{Option, Some, None, slice_get, refl, sym, ap, ap₂, ◌∙◌, arith}
use Rattle.std.proofs.Common.{nat_lt, ltb-true, ltb-false}
use Rattle.std.specs.Prelude.{option_map, nat_le}
use Rattle.trips_isa.specs.declared.node.Node.{Node}
use Rattle.trips_isa.specs.Places.{targets, names}
use Rattle.trips_isa.specs.Tables.{feeds, Edge, Ranked, IsRanked}
use Rattle.block_cases.specs.Nodes.{Walk, HasCycle}
use Rattle.block_cases.specs.Nodes.Walk.{Step, Then}
use Rattle.std.proofs.lemmas.Bool.Decides.{nat_tests}
use Rattle.grid_place.proofs.Renaming.{moved_node, names_same}
use Rattle.grid_place.proofs.MovedNodes.{Standing}

module _ (ns ms : List Node) (place to from : ℕ → ℕ) (s : Standing ns ms place to from) where
  stored : (t n : ℕ) → (nat_le 416 (place t) && nat_lt (place t) n) ≡ (nat_le 416 t && nat_lt t n)
  stored t n = by (nat_lt t 384) refl
    where
      below : (u : ℕ) → u < 416 → (nat_le 416 u && nat_lt u n) ≡ false
      below u l = ap (λ v. v && nat_lt u n) (small u l)
        where
          small : (u : ℕ) → u < 416 → nat_le 416 u ≡ false
          small u l = grind (arith, nat_tests)

      by : (v : Bool) → nat_lt t 384 ≡ v
          → (nat_le 416 (place t) && nat_lt (place t) n) ≡ (nat_le 416 t && nat_lt t n)
      by true e =
          let l : t < 384 = ltb-true t 384 e in
          let m : place t < 384 = s.low t l in
          below (place t) (omega arith) ∙ sym (below t (omega arith))
      by false e = ap (λ u. nat_le 416 u && nat_lt u n) (s.high t (ltb-false t 384 e))

  fed_alike : (x y : ℕ) (m n : Node) → slice_get ns y ≡ Some n
      → feeds (moved_node place m) (moved_node place n) ≡ feeds m n
  fed_alike x y m n i =
      ap₂ (λ u v. u || v) (names_same place s.apart m n.slot)
      (ap₂ (λ u v. u || v)
      (ap (names (targets (moved_node place m))) (sym (s.right y n i))
      ∙ names_same place s.apart m (128 + n.slot))
      (ap₂ (λ u v. u || v)
      (ap (names (targets (moved_node place m))) (sym (s.predicate y n i))
      ∙ names_same place s.apart m (256 + n.slot))
      (ap₂ (λ u v. u || (v || false)) (stored m.first n.below) (stored m.second n.below))))

  -- a node of the moved block is the moved node of the block
  pub node_back : (y : ℕ) (k : Node) → slice_get ms y ≡ Some k
      → (n : Node) × (slice_get ns (from y) ≡ Some n) × (k ≡ moved_node place n)
  node_back y k e = by (slice_get ns (from y)) refl
    where
      there : Some k ≡ option_map (moved_node place) (slice_get ns (from y))
      there = sym e ∙ ap (slice_get ms) (sym (s.returned y)) ∙ s.stands (from y)

      by : (o : Option Node) → slice_get ns (from y) ≡ o
          → (n : Node) × (slice_get ns (from y) ≡ Some n) × (k ≡ moved_node place n)
      by None i = absurd (let h : Some k ≡ None = there
          ∙ ap (option_map (moved_node place)) i in cc)
      by (Some n) i = (
        n,
        i,
        let h : Some k ≡ Some (moved_node place n) = there ∙ ap (option_map (moved_node place)) i in
            cc,
      )

  pub edge_back : (x y : ℕ) → Edge ms x y → Edge ns (from x) (from y)
  edge_back x y e =
      let m = node_back x e.source e.is_source in
      let n = node_back y e.target e.is_target in
      record {
        source = m.0;
        target = n.0;
        is_source = m.1;
        is_target = n.1;
        fed = sym (fed_alike (from x) (from y) m.0 n.0 n.1)
            ∙ sym (ap₂ feeds m.2 n.2) ∙ e.fed;
      }

  -- where the block's nodes are ranked, so are those of the moved block
  pub ranked_back : IsRanked ns → IsRanked ms
  ranked_back (rank, r) = (
    λ y. rank (from y),
    record {
      rises = λ x y e. r.rises (from x) (from y) (edge_back x y e);
      below = λ x. r.below (from x);
    },
  )

walk_rises : (ns : List Node) (rank : ℕ → ℕ) → Ranked ns rank → (x y : ℕ) → Walk ns x y
    → rank x < rank y
walk_rises ns rank r x y (Step e) = r.rises _ _ e
walk_rises ns rank r x z (Then e w) =
    let u = r.rises _ _ e in let v = walk_rises ns rank r _ _ w in omega (arith, u, v)

-- nodes in order have no cycle
pub ranked_acyclic : (ns : List Node) → IsRanked ns → HasCycle ns → ⊥
ranked_acyclic ns (rank, r) (x, w) = let u = walk_rises ns rank r x x w in omega (arith, u)
