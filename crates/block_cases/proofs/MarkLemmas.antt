-- What a mark hangs on: the marks of its node's producers; so a block in order has one marking.
use Rattle.std.proofs.Common.{◌≡◌, ℕ, ◌+◌, ◌<◌, true, cond, List, Option, Some}
use Rattle.std.proofs.Common.{None, slice_get, refl, ap, ◌∙◌, arith}
use Rattle.trips_isa.specs.declared.node.Node.{Node}
use Rattle.trips_isa.specs.declared.block.Block.{Block}
use Rattle.trips_isa.specs.Forms.{takes_left, takes_right}
use Rattle.trips_isa.specs.Rule.{Answer}
use Rattle.trips_isa.specs.Places.{targets, names, nodes_of}
use Rattle.trips_isa.specs.Tables.{Edge, Ranked, IsRanked, deepest}
use Rattle.trips_isa.specs.Blocks.{at_place}
use Rattle.block_cases.proofs.Nodes.{taken_same}
use Rattle.block_cases.proofs.Steady.{to_left, to_right, to_predicate, deepest_is}
use Rattle.trips_isa.specs.Faults.{node_fault}
use Rattle.trips_isa.specs.Operands.{operands, is_guarded}
use Rattle.trips_isa.specs.Marks.{mark_by, beside, or_unmarked, mark_at, fired_mark, node_mark}
use Rattle.trips_isa.specs.Marks.{mark_given, mark_of}
use Rattle.trips_isa.specs.inside.Marks.{IsMarking}
use Rattle.trips_isa.specs.Limits.{most_nodes}
use Rattle.block_cases.proofs.Fixed.{LedBelow, IsPulled, only_fixed, reached}

-- the producers of a place decide its mark
pub mark_at_same : (ns : List Node) (g : ℕ → Answer) (m m' : ℕ → ℕ) (q : ℕ)
    → ((y : ℕ) (n : Node) → slice_get ns y ≡ Some n → names (targets n) q ≡ true → m y ≡ m' y)
    → mark_at ns g m q ≡ mark_at ns g m' q
mark_at_same ns g m m' q h = ap or_unmarked
    (taken_same ns q (λ y. beside (g y) (m y)) (λ y. beside (g y) (m' y))
    (λ y n i e. ap (beside (g y)) (h y n i e)))

-- the marks at a node's three places decide its own
pub fired_same : (n : Node) (own : ℕ → ℕ → ℕ) (pull : ℕ → Answer) (p p' : ℕ → ℕ)
    → p n.slot ≡ p' n.slot → p (128 + n.slot) ≡ p' (128 + n.slot)
    → p (256 + n.slot) ≡ p' (256 + n.slot) → fired_mark n own pull p ≡ fired_mark n own pull p'
fired_same n own pull p p' u v w = ap (λ l. by l (p (128 + n.slot)) (p (256 + n.slot))) u
    ∙ ap (λ r. by (p' n.slot) r (p (256 + n.slot))) v
    ∙ ap (λ c. by (p' n.slot) (p' (128 + n.slot)) c) w
  where
    by : ℕ → ℕ → ℕ → ℕ
    by l r c = mark_by own (operands n.role (pull n.slot) (pull (128 + n.slot)))
        (cond (takes_left n.role) l 0) (cond (takes_right n.role) r 0)
        (cond (is_guarded n.sense) c 0)

-- a mark hangs on the marks of lower ranks alone
pub led_below : (b : Block) (g : ℕ → Answer) (rank : ℕ → ℕ) → Ranked (nodes_of b) rank
    → LedBelow rank (mark_given b g)
unfolding mark_given
led_below b g rank o f h x same = go (slice_get (nodes_of b) x) refl (g x)
  where
    edge : (y : ℕ) → Edge (nodes_of b) y x → f y ≡ h y
    edge y e = same y (o.rises y x e)

    go : (s : Option Node) → slice_get (nodes_of b) x ≡ s → (t : Answer)
        → node_mark s (node_fault b x) (at_place b g) (mark_at (nodes_of b) g f) t
        ≡ node_mark s (node_fault b x) (at_place b g) (mark_at (nodes_of b) g h) t
    go None j t = refl
    go (Some n) j None = refl
    go (Some n) j (Some t) =
        fired_same n (node_fault b x) (at_place b g) (mark_at (nodes_of b) g f)
        (mark_at (nodes_of b) g h)
        (mark_at_same (nodes_of b) g f h n.slot
        (λ y m i e. edge y (to_left (nodes_of b) x y m n i j e)))
        (mark_at_same (nodes_of b) g f h (128 + n.slot)
        (λ y m i e. edge y (to_right (nodes_of b) x y m n i j e)))
        (mark_at_same (nodes_of b) g f h (256 + n.slot)
        (λ y m i e. edge y (to_predicate (nodes_of b) x y m n i j e)))

-- marks by depth are pulled by the step that gives each node its mark
pub marks_pulled : (b : Block) (g : ℕ → Answer) → IsPulled (mark_given b g) (mark_of b g)
marks_pulled b g k x = refl

rank_low : (b : Block) (r : IsRanked (nodes_of b)) (x : ℕ) → r.0 x < deepest
rank_low b r x =
    let o : Ranked (nodes_of b) r.0 = r.1 in
    let low : r.0 x < most_nodes = o.below x in
    let e : deepest ≡ most_nodes = deepest_is in
    omega arith

-- a block in order has no other marking than what is pulled
pub only_marking : (b : Block) → IsRanked (nodes_of b) → (g : ℕ → Answer) (m : ℕ → ℕ)
    → IsMarking b g m → (x : ℕ) → m x ≡ mark_of b g deepest x
only_marking b r g m fixed x = only_fixed r.0 (mark_given b g) (mark_of b g)
    (led_below b g r.0 r.1) (marks_pulled b g) m fixed deepest x (rank_low b r x)

-- depth `deepest` reaches it
pub pulled_is_marking : (b : Block) → IsRanked (nodes_of b) → (g : ℕ → Answer)
    → IsMarking b g (mark_of b g deepest)
pulled_is_marking b r g x = reached r.0 (mark_given b g) (mark_of b g)
    (led_below b g r.0 r.1) (marks_pulled b g) deepest x (rank_low b r x)
