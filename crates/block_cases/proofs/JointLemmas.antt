-- In a block without a cycle the marks pulled beside the tokens are those over the whole table.
use Rattle.std.proofs.Common.{◌≡◌, ℕ, zero, suc, ◌+◌, ◌<◌, true, cond, List, Option, Some, None}
use Rattle.std.proofs.Common.{slice_get, refl, sym, ap, ap₂, ◌∙◌, arith}
use Rattle.trips_isa.specs.declared.node.Node.{Node}
use Rattle.trips_isa.specs.declared.block.Block.{Block}
use Rattle.trips_isa.specs.Forms.{takes_left, takes_right}
use Rattle.trips_isa.specs.Rule.{Answer}
use Rattle.trips_isa.specs.Places.{targets, names, nodes_of}
use Rattle.trips_isa.specs.Tables.{Edge, Ranked, IsRanked, deepest}
use Rattle.trips_isa.specs.Blocks.{at_place, given, token_of}
use Rattle.block_cases.proofs.Nodes.{taken_same}
use Rattle.block_cases.proofs.Settled.{given_below}
use Rattle.block_cases.proofs.Steady.{to_left, to_right, to_predicate, deepest_is}
use Rattle.trips_isa.specs.Faults.{node_fault}
use Rattle.trips_isa.specs.Operands.{operands, is_guarded}
use Rattle.trips_isa.specs.Marks.{mark_by, beside, or_unmarked, mark_at, fired_mark, node_mark}
use Rattle.trips_isa.specs.Marks.{mark_given, mark_of}
use Rattle.trips_isa.specs.Limits.{most_nodes}
use Rattle.block_cases.specs.inside.Joint.{marked_of}
use Rattle.block_cases.proofs.Fixed.{LedBelow, IsPulled, deeper_same}
use Rattle.block_cases.proofs.MarkLemmas.{pulled_is_marking}

-- tokens are a case of what is pulled
pub tokens_led : (b : Block) (regs mem : List ℕ) (rank : ℕ → ℕ) → Ranked (nodes_of b) rank
    → LedBelow rank (given b regs mem)
tokens_led b regs mem rank o f h x same = given_below b regs mem rank o f h x same

tokens_pulled : (b : Block) (regs mem : List ℕ) → IsPulled (given b regs mem) (token_of b regs mem)
tokens_pulled b regs mem k x = refl

place_same : (ns : List Node) (g g' : ℕ → Answer) (m m' : ℕ → ℕ) (q : ℕ)
    → ((y : ℕ) (n : Node) → slice_get ns y ≡ Some n → names (targets n) q ≡ true → g y ≡ g' y)
    → ((y : ℕ) (n : Node) → slice_get ns y ≡ Some n → names (targets n) q ≡ true → m y ≡ m' y)
    → mark_at ns g m q ≡ mark_at ns g' m' q
place_same ns g g' m m' q a c = ap or_unmarked
    (taken_same ns q (λ y. beside (g y) (m y)) (λ y. beside (g' y) (m' y))
    (λ y n i e. ap₂ beside (a y n i e) (c y n i e)))

-- the tokens at a node's operands and the marks at its places decide its mark
node_same : (n : Node) (own : ℕ → ℕ → ℕ) (t t' : ℕ → Answer) (p p' : ℕ → ℕ) → t n.slot ≡ t' n.slot
    → t (128 + n.slot) ≡ t' (128 + n.slot) → p n.slot ≡ p' n.slot
    → p (128 + n.slot) ≡ p' (128 + n.slot) → p (256 + n.slot) ≡ p' (256 + n.slot)
    → fired_mark n own t p ≡ fired_mark n own t' p'
node_same n own t t' p p' a c u v w =
    ap (λ l. by l (t (128 + n.slot)) (p n.slot) (p (128 + n.slot)) (p (256 + n.slot))) a
    ∙ ap (λ r. by (t' n.slot) r (p n.slot) (p (128 + n.slot)) (p (256 + n.slot))) c
    ∙ ap (λ x. by (t' n.slot) (t' (128 + n.slot)) x (p (128 + n.slot)) (p (256 + n.slot))) u
    ∙ ap (λ x. by (t' n.slot) (t' (128 + n.slot)) (p' n.slot) x (p (256 + n.slot))) v
    ∙ ap (λ x. by (t' n.slot) (t' (128 + n.slot)) (p' n.slot) (p' (128 + n.slot)) x) w
  where
    by : Answer → Answer → ℕ → ℕ → ℕ → ℕ
    by l r x y z = mark_by own (operands n.role l r) (cond (takes_left n.role) x 0)
        (cond (takes_right n.role) y 0) (cond (is_guarded n.sense) z 0)

-- one step over lower ranks that agree
step_same : (b : Block) (rank : ℕ → ℕ) → Ranked (nodes_of b) rank → (g g' : ℕ → Answer)
    (m m' : ℕ → ℕ) (t : Answer) (x : ℕ) → ((y : ℕ) → rank y < rank x → g y ≡ g' y)
    → ((y : ℕ) → rank y < rank x → m y ≡ m' y) → t ≡ g' x
    → node_mark (slice_get (nodes_of b) x) (node_fault b x) (at_place b g)
    (mark_at (nodes_of b) g m) t ≡ mark_given b g' m' x
unfolding mark_given
step_same b rank o g g' m m' t x a c e =
    ap (node_mark (slice_get (nodes_of b) x) (node_fault b x) (at_place b g)
    (mark_at (nodes_of b) g m)) e
    ∙ go (slice_get (nodes_of b) x) refl (g' x)
  where
    tokens : (q : ℕ) → ((y : ℕ) (n : Node) → slice_get (nodes_of b) y ≡ Some n
        → names (targets n) q ≡ true → Edge (nodes_of b) y x) → at_place b g q ≡ at_place b g' q
    tokens q edge = taken_same (nodes_of b) q g g' (λ y n i h. a y (o.rises y x (edge y n i h)))

    marks : (q : ℕ) → ((y : ℕ) (n : Node) → slice_get (nodes_of b) y ≡ Some n
        → names (targets n) q ≡ true → Edge (nodes_of b) y x)
        → mark_at (nodes_of b) g m q ≡ mark_at (nodes_of b) g' m' q
    marks q edge = place_same (nodes_of b) g g' m m' q (λ y n i h. a y (o.rises y x (edge y n i h)))
        (λ y n i h. c y (o.rises y x (edge y n i h)))

    go : (s : Option Node) → slice_get (nodes_of b) x ≡ s → (u : Answer)
        → node_mark s (node_fault b x) (at_place b g) (mark_at (nodes_of b) g m) u
        ≡ node_mark s (node_fault b x) (at_place b g') (mark_at (nodes_of b) g' m') u
    go None j u = refl
    go (Some n) j None = refl
    go (Some n) j (Some u) =
        node_same n (node_fault b x) (at_place b g) (at_place b g') (mark_at (nodes_of b) g m)
        (mark_at (nodes_of b) g' m')
        (tokens n.slot (λ y k i h. to_left (nodes_of b) x y k n i j h))
        (tokens (128 + n.slot) (λ y k i h. to_right (nodes_of b) x y k n i j h))
        (marks n.slot (λ y k i h. to_left (nodes_of b) x y k n i j h))
        (marks (128 + n.slot) (λ y k i h. to_right (nodes_of b) x y k n i j h))
        (marks (256 + n.slot) (λ y k i h. to_predicate (nodes_of b) x y k n i j h))

joint_at : (b : Block) (regs mem : List ℕ) (r : IsRanked (nodes_of b)) (k x : ℕ) → r.0 x < k
    → marked_of b regs mem k x ≡ mark_of b (token_of b regs mem deepest) deepest x
joint_at b regs mem r zero x l = absurd (omega arith)
joint_at b regs mem r (suc k) x l =
    step_same b r.0 r.1 (token_of b regs mem k) (token_of b regs mem deepest)
    (marked_of b regs mem k) (mark_of b (token_of b regs mem deepest) deepest)
    (token_of b regs mem (suc k) x) x
    (λ y up. token k y (omega arith))
    (λ y up. joint_at b regs mem r k y (omega arith))
    (token (suc k) x l)
    ∙ sym (pulled_is_marking b r (token_of b regs mem deepest) x)
  where
    token : (n y : ℕ) → r.0 y < n → token_of b regs mem n y ≡ token_of b regs mem deepest y
    token n y h =
        let o : Ranked (nodes_of b) r.0 = r.1 in
        let low : r.0 y < most_nodes = o.below y in
        let e : deepest ≡ most_nodes = deepest_is in
        deeper_same r.0 (given b regs mem) (token_of b regs mem)
        (tokens_led b regs mem r.0 r.1) (tokens_pulled b regs mem) n deepest y h (omega arith)

-- at depth `deepest` both are the same
pub joint_is : (b : Block) (regs mem : List ℕ) → IsRanked (nodes_of b) → (x : ℕ)
    → marked_of b regs mem deepest x ≡ mark_of b (token_of b regs mem deepest) deepest x
joint_is b regs mem r x =
    let o : Ranked (nodes_of b) r.0 = r.1 in
    let low : r.0 x < most_nodes = o.below x in
    let e : deepest ≡ most_nodes = deepest_is in
    joint_at b regs mem r deepest x (omega arith)
