-- Nodes without a cycle have one table, whatever they compute; and a node that fires names no place
-- twice.
use Rattle.std.proofs.Common.{◌≡◌, ◌≢◌, ℕ, zero, suc, ◌+◌, ◌<◌, ◌≤◌, List, [], ◌∷◌, Option, Some}
use Rattle.std.proofs.Common.{None, slice_get, Bool, refl, ap, ◌∙◌, arith}
use Rattle.trips_isa.specs.declared.node.Node.{Node}
use Rattle.trips_isa.specs.declared.block.Token.TheVariants.{Null as NullToken, Word}
use Rattle.block_cases.specs.declared.token.CaseToken.TheVariants.{Absent}
use Rattle.trips_isa.specs.Rule.{Answer, rule}
use Rattle.trips_isa.specs.Places.{targets}
use Rattle.trips_isa.specs.Tables.{Computes, first, node_gives, Edge, Ranked}
use Rattle.trips_isa.specs.inside.Tables.{IsTable, pulled}
use Rattle.trips_isa.specs.Tables.{IsRanked, deepest}
use Rattle.trips_isa.specs.Limits.{most_nodes}
use Rattle.block_cases.specs.Nodes.{hits}
use Rattle.block_cases.specs.Cases.{weighed, tokens}
use Rattle.block_cases.specs.inside.Good.{OneToken}
use Rattle.block_cases.specs.inside.Shapes.{shape}
use Rattle.block_cases.proofs.Steady.{to_left, to_right, to_predicate, deepest_is}
use Rattle.block_cases.proofs.Nodes.{taken_same}
use Rattle.block_cases.proofs.AnyBits.{one_at_most}

-- what stands at a node's three places decides what it gives
pub node_same : (n : Node) (a : ℕ → ℕ → ℕ) (p p' : ℕ → Answer) → p n.slot ≡ p' n.slot
    → p (128 + n.slot) ≡ p' (128 + n.slot) → p (256 + n.slot) ≡ p' (256 + n.slot)
    → node_gives (Some n) a p ≡ node_gives (Some n) a p'
node_same n a p p' u v w = ap (λ l. rule n.role n.sense a l (p (128 + n.slot)) (p (256 + n.slot))) u
    ∙ ap (λ r. rule n.role n.sense a (p' n.slot) r (p (256 + n.slot))) v
    ∙ ap (λ c. rule n.role n.sense a (p' n.slot) (p' (128 + n.slot)) c) w

gives_below : (ns : List Node) (a : ℕ → ℕ → ℕ) (f g : ℕ → Answer) (x : ℕ)
    → ((y : ℕ) → Edge ns y x → f y ≡ g y) → node_gives (slice_get ns x) a (λ q. first ns q f)
    ≡ node_gives (slice_get ns x) a (λ q. first ns q g)
gives_below ns a f g x h = go (slice_get ns x) refl
  where
    go : (s : Option Node) → slice_get ns x ≡ s
        → node_gives s a (λ q. first ns q f) ≡ node_gives s a (λ q. first ns q g)
    go None j = refl
    go (Some n) j =
        node_same n a (λ q. first ns q f) (λ q. first ns q g)
        (taken_same ns n.slot f g (λ y m i e. h y (to_left ns x y m n i j e)))
        (taken_same ns (128 + n.slot) f g (λ y m i e. h y (to_right ns x y m n i j e)))
        (taken_same ns (256 + n.slot) f g (λ y m i e. h y (to_predicate ns x y m n i j e)))

only_at : (ns : List Node) (rank : ℕ → ℕ) → Ranked ns rank → (a : Computes) (g : ℕ → Answer)
    → IsTable ns a g → (k x : ℕ) → rank x < k → g x ≡ pulled ns a k x
only_at ns rank o a g t zero x l = absurd (omega arith)
only_at ns rank o a g t (suc k) x l =
    t x ∙ gives_below ns (a x) g (pulled ns a k) x (λ y e. let up : rank y < rank x = o.rises y x e in
    only_at ns rank o a g t k y (omega arith))

-- in nodes without a cycle a table has for each node what is pulled there
pub only_table : (ns : List Node) → IsRanked ns → (a : Computes) (g : ℕ → Answer) → IsTable ns a g
    → (x : ℕ) → g x ≡ pulled ns a deepest x
only_table ns r a g t x = only_at ns r.0 r.1 a g t deepest x (let o : Ranked ns r.0 = r.1 in
    let low : r.0 x < most_nodes = o.below x in let e : deepest ≡ most_nodes = deepest_is in omega arith)

deeper_same : (ns : List Node) (rank : ℕ → ℕ) → Ranked ns rank → (a : Computes) (k m x : ℕ)
    → rank x < k → rank x < m → pulled ns a k x ≡ pulled ns a m x
deeper_same ns rank o a zero m x h i = absurd (omega arith)
deeper_same ns rank o a (suc k) zero x h i = absurd (omega arith)
deeper_same ns rank o a (suc k) (suc m) x h i =
    gives_below ns (a x) (pulled ns a k) (pulled ns a m) x (λ y e. let up : rank y < rank x = o.rises y x e in
    deeper_same ns rank o a k m y (omega arith) (omega arith))

reached : (ns : List Node) (rank : ℕ → ℕ) → Ranked ns rank → (a : Computes) (d x : ℕ) → rank x < d
    → pulled ns a d x ≡ node_gives (slice_get ns x) (a x) (λ q. first ns q (pulled ns a d))
reached ns rank o a zero x h = absurd (omega arith)
reached ns rank o a (suc k) x h =
    gives_below ns (a x) (pulled ns a k) (pulled ns a (suc k)) x (λ y e. let up : rank y < rank x = o.rises y x e in
    deeper_same ns rank o a k (suc k) y (omega arith) (omega arith))

-- what ranked nodes pull at the greatest depth is their table
pub pulled_is_table : (ns : List Node) → IsRanked ns → (a : Computes)
    → IsTable ns a (pulled ns a deepest)
pulled_is_table ns r a x = reached ns r.0 r.1 a deepest x (let o : Ranked ns r.0 = r.1 in
    let low : r.0 x < most_nodes = o.below x in let e : deepest ≡ most_nodes = deepest_is in omega arith)

-- a node that fires names no place twice
-- --------------------------------------------------------------

weighed_here : (t : Answer) (k : ℕ) → t ≢ None → weighed (shape t) k ≡ k
weighed_here None k n = absurd (n refl)
weighed_here (Some NullToken) k n = refl
weighed_here (Some (Word w)) k n = refl

hits_within : (ns : List Node) (f : ℕ → Answer) (q x : ℕ) (n : Node) → slice_get ns x ≡ Some n
    → f x ≢ None → hits (targets n) q ≤ tokens ns (λ y. shape (f y)) q
hits_within [] f q x n e p = absurd (cc)
hits_within (m ∷ ms) f q zero n e p =
    let same : m ≡ n = cc in
    let here : hits (targets m) q ≡ hits (targets n) q = ap (λ (k : Node). hits (targets k) q) same in
    let w : weighed (shape (f 0)) (hits (targets m) q) ≡ hits (targets m) q =
    weighed_here (f 0) (hits (targets m) q) p in
    omega (arith, here, w)
hits_within (m ∷ ms) f q (suc x) n e p = let k = hits_within ms (λ y. f (suc y)) q x n e p in omega (arith, k)

-- a node that gives a token in a block that keeps one token has no place twice among its targets
pub fires_once : (ns : List Node) (wanted : ℕ → Bool) (f : ℕ → Answer)
    → OneToken ns wanted (λ y. shape (f y)) → (q x : ℕ) (n : Node) → q < 449 → slice_get ns x ≡ Some n
    → f x ≢ None → hits (targets n) q ≤ 1
fires_once ns wanted f law q x n lt e p =
    let within : hits (targets n) q ≤ tokens ns (λ y. shape (f y)) q = hits_within ns f q x n e p in
    let most : tokens ns (λ y. shape (f y)) q ≤ 1 = one_at_most ns wanted (λ y. shape (f y)) law q lt in
    omega (arith, within, most)

-- what is given has a shape that is not absent
pub present_shape : (t : Answer) → t ≢ None → shape t ≢ Absent
present_shape None n e = n refl
present_shape (Some NullToken) n e = absurd (cc)
present_shape (Some (Word w)) n e = absurd (cc)
