-- PartOrder nodes: an order at the end, or a cycle.
use Rattle.std.proofs.Common.{◌≡◌, ℕ, zero, suc, ◌+◌, ◌<◌, ◌≤◌, Bool, true, false, ◌⊎◌}
use Rattle.std.proofs.Common.{inl, inr, List, [], ◌∷◌, length, get_or, Some, slice_get, slice_set}
use Rattle.std.proofs.Common.{refl, sym, ap, ◌∙◌, subst, arith, nat_lt, ◌==◌, true≢false}
use Rattle.trips_isa.specs.declared.node.Node.{Node}
use Rattle.trips_isa.specs.Limits.{most_nodes}
use Rattle.block_cases.specs.Nodes.{names, feeds, one_if, Edge}
use Rattle.block_check.specs.inside.Walk.{Sorted}
use Rattle.block_check.specs.inside.PartOrder.{unplaced, Placed, PartOrder, IsOrdered}
use Rattle.block_cases.proofs.Steady.{or_left, or_right}
use Rattle.block_cases.proofs.Alike.{or_true}
use Rattle.block_check.proofs.Cycles.{eq_is, eq_not, near, same}

-- placing one more
-- ----------------------------------------------------------------------------------

set_here : (l : List ℕ) (x v : ℕ) → x < length l → get_or (slice_set l x v) x 0 ≡ v
set_here [] x v h = absurd (omega arith)
set_here (a ∷ l) zero v h = refl
set_here (a ∷ l) (suc x) v h = set_here l x v (omega arith)

set_there : (l : List ℕ) (x y v : ℕ) → (y ≡ x → ⊥) → get_or (slice_set l x v) y 0 ≡ get_or l y 0
set_there [] x y v h = refl
set_there (a ∷ l) zero zero v h = absurd (h refl)
set_there (a ∷ l) zero (suc y) v h = refl
set_there (a ∷ l) (suc x) zero v h = refl
set_there (a ∷ l) (suc x) (suc y) v h = set_there l x y v (λ e. h (ap suc e))

set_length : (l : List ℕ) (x v : ℕ) → length (slice_set l x v) ≡ length l
set_length [] x v = refl
set_length (a ∷ l) zero v = refl
set_length (a ∷ l) (suc x) v = ap suc (set_length l x v)

one_fewer : (l : List ℕ) (x v : ℕ) → x < length l → get_or l x 0 ≡ 255 → v < 255 →
    unplaced (slice_set l x v) + 1 ≡ unplaced l
one_fewer [] x v h e lt = absurd (omega arith)
one_fewer (a ∷ l) zero v h e lt =
    let p : (a == 255) ≡ true = grind arith in
    let q : (v == 255) ≡ false = grind arith in
    let s : one_if (a == 255) ≡ 1 = ap one_if p in
    let t : one_if (v == 255) ≡ 0 = ap one_if q in
    omega (arith, s, t)
one_fewer (a ∷ l) (suc x) v h e lt = let k = one_fewer l x v (omega arith) e lt in omega (arith, k)

-- where a node is not placed yet, fewer nodes are placed than there are
pub some_room : (ns : List Node) (ranks order : List ℕ) (placed x : ℕ) →
    PartOrder ns ranks order placed → x < length ns → get_or ranks x 0 ≡ 255 → placed < length ns
some_room ns ranks order placed x p lt e =
    let a = one_fewer ranks x 0 (let z : length ranks ≡ length ns = p.ranks_size in
    omega arith) e (omega arith) in
    let l : placed + unplaced ranks ≡ length ns = p.left in
    omega (arith, a)

below_255 : (r : ℕ) → r ≤ 255 → (r ≡ 255 → ⊥) → r < 255
below_255 r le ne = near r 255 (omega arith) ne

-- where a node that none of the nodes left feeds is placed next, the order of what is placed goes on
pub placing_more : (ns : List Node) (ranks order ranks' order' : List ℕ) (placed x : ℕ) (n : Node) →
    PartOrder ns ranks order placed → length ns ≤ most_nodes → x < length ns → slice_get ns x ≡ Some n →
    get_or ranks x 0 ≡ 255 →
    ((y : ℕ) (m : Node) → slice_get ns y ≡ Some m → get_or ranks y 0 ≡ 255 → feeds m n ≡ false) →
    ranks' ≡ slice_set ranks x placed → order' ≡ slice_set order placed x →
    PartOrder ns ranks' order' (placed + 1)
placing_more ns ranks order ranks' order' placed x n p size lt is e free a b =
    subst (λ r. PartOrder ns r order' (placed + 1)) (sym a) (subst (λ o. PartOrder ns (slice_set ranks
    x placed) o (placed + 1)) (sym b) (record {
      ranks_size = set_length ranks x placed ∙ p.ranks_size;
      order_size = set_length order placed x ∙ p.order_size;
      ranked = λ y h r. by_ranked y h r (y == x) refl;
      either = λ y. by_either y (y == x) refl;
      in_order = λ k h. by_in_order k h (k == placed) refl;
      ordered = λ k h. by_ordered k h (k == placed) refl;
      rises = λ y z edge r. by_rises y z edge r (z == x) refl;
      left = let f = one_fewer ranks x placed x_in e (omega arith) in
          let l : placed + unplaced ranks ≡ length ns = p.left in omega (arith, f, l);
    }))
  where
    room : placed < length ns
    room = some_room ns ranks order placed x p lt e

    x_in : x < length ranks
    x_in = let z : length ranks ≡ length ns = p.ranks_size in omega arith

    placed_in : placed < length order
    placed_in = let z : length order ≡ length ns = p.order_size in let r : placed < length ns = room in
        omega arith

    here : get_or (slice_set ranks x placed) x 0 ≡ placed
    here = set_here ranks x placed x_in

    there : (y : ℕ) → (y ≡ x → ⊥) → get_or (slice_set ranks x placed) y 0 ≡ get_or ranks y 0
    there y ne = set_there ranks x y placed ne

    few : placed < 255
    few = let r : placed < length ns = room in omega arith

    -- what has a rank is not x
    other : (y : ℕ) → get_or ranks y 0 < 255 → y ≡ x → ⊥
    other y r k = let same : get_or ranks y 0 ≡ get_or ranks x 0 = ap (λ z. get_or ranks z 0) k in
        omega (arith, same, e, r)

    by_ranked : (y : ℕ) → y < length ns → get_or (slice_set ranks x placed) y 0 < 255 → (c : Bool) →
        (y == x) ≡ c → Placed ns (slice_set ranks x placed) (slice_set order placed x) y (placed +
        1)
    by_ranked y h r true k =
        let same : y ≡ x = eq_is y x k in
        subst (λ z. Placed ns (slice_set ranks x placed) (slice_set order placed x) z (placed + 1))
        (sym same) (record {
          below = let q : get_or (slice_set ranks x placed) x 0 ≡ placed = here in omega arith;
          there = ap (λ z. get_or (slice_set order placed x) z 0) here
              ∙ set_here order placed x placed_in;
        })
    by_ranked y h r false k =
        let t : get_or (slice_set ranks x placed) y 0 ≡ get_or ranks y 0 = there y (eq_not y x k) in
        let old = p.ranked y h (omega arith) in
        let low : get_or ranks y 0 < placed = old.below in
        record {
          below = omega arith;
          there = ap (λ z. get_or (slice_set order placed x) z 0) t
              ∙ set_there order placed (get_or ranks y 0) x (λ j. omega (arith, low, j))
              ∙ old.there;
        }

    by_either : (y : ℕ) → (c : Bool) → (y == x) ≡ c → get_or (slice_set ranks x placed) y 0 ≤ 255
    by_either y true k =
        let same : get_or (slice_set ranks x placed) y 0 ≡ get_or (slice_set ranks x placed) x 0 =
        ap (λ z. get_or (slice_set ranks x placed) z 0) (eq_is y x k) in
        let q : get_or (slice_set ranks x placed) x 0 ≡ placed = here in
        let f : placed < 255 = few in
        omega arith
    by_either y false k = let t : get_or (slice_set ranks x placed) y 0 ≡ get_or ranks y 0 = there
        y (eq_not y x k) in let o : get_or ranks y 0 ≤ 255 = p.either y in omega arith

    by_in_order : (k : ℕ) → k < placed + 1 → (c : Bool) → (k == placed) ≡ c →
        get_or (slice_set order placed x) k 0 < length ns
    by_in_order k h true j =
        let q : get_or (slice_set order placed x) k 0 ≡ x = ap (λ z. get_or (slice_set order placed
        x) z 0) (eq_is k placed j) ∙ set_here order placed x placed_in in omega arith
    by_in_order k h false j =
        let q : get_or (slice_set order placed x) k 0 ≡ get_or order k 0 = set_there order placed k
        x (eq_not k placed j) in
        let o : get_or order k 0 < length ns = p.in_order k (near k placed (omega arith) (eq_not k
        placed j)) in omega arith

    by_ordered : (k : ℕ) → k < placed + 1 → (c : Bool) → (k == placed) ≡ c →
        get_or (slice_set ranks x placed) (get_or (slice_set order placed x) k 0) 0 ≡ k
    by_ordered k h true j =
        ap (λ z. get_or (slice_set ranks x placed) z 0) (ap (λ z. get_or (slice_set order placed x)
        z 0) (eq_is k placed j) ∙ set_here order placed x placed_in)
        ∙ here ∙ sym (eq_is k placed j)
    by_ordered k h false j =
        let below : k < placed = near k placed (omega arith) (eq_not k placed j) in
        let was : get_or ranks (get_or order k 0) 0 ≡ k = p.ordered k below in
        let f : placed < 255 = few in
        ap (λ z. get_or (slice_set ranks x placed) z 0) (set_there order placed k x (eq_not k
        placed j))
        ∙ there (get_or order k 0) (other (get_or order k 0) (omega arith))
        ∙ was

    by_rises : (y z : ℕ) → Edge ns y z → get_or (slice_set ranks x placed) z 0 < 255 → (c : Bool) →
        (z == x) ≡ c → get_or (slice_set ranks x placed) y 0 < get_or (slice_set ranks x placed) z 0
    by_rises y z edge r true k =
        let same_z : z ≡ x = eq_is z x k in
        let target : edge.target ≡ n = some_same edge.target n (sym edge.is_target
        ∙ ap (slice_get ns) same_z ∙ is) in
        let fed : feeds edge.source n ≡ true = sym (ap (λ (m : Node). feeds edge.source m) target)
        ∙ edge.fed in
        let ranked_y : get_or ranks y 0 < 255 = below_255 _ (p.either y) (λ j. true≢false (sym fed
        ∙ free y edge.source edge.is_source j)) in
        let low : get_or ranks y 0 < placed = (p.ranked y (got ns y edge.source edge.is_source)
        ranked_y).below in
        let t : get_or (slice_set ranks x placed) y 0 ≡ get_or ranks y 0 = there y (other y
        ranked_y) in
        let w : get_or (slice_set ranks x placed) z 0 ≡ placed = ap (λ v. get_or (slice_set ranks x
        placed) v 0) same_z ∙ here in
        omega arith
      where
        some_same : (u v : Node) → Some u ≡ Some v → u ≡ v
        some_same u v e = cc

        got : (ns : List Node) (y : ℕ) (m : Node) → slice_get ns y ≡ Some m → y < length ns
        got [] y m e = absurd (cc)
        got (a ∷ l) zero m e = omega arith
        got (a ∷ l) (suc y) m e = let h = got l y m e in omega (arith, h)
    by_rises y z edge r false k =
        let w : get_or (slice_set ranks x placed) z 0 ≡ get_or ranks z 0 = there z (eq_not z x k) in
        let up : get_or ranks y 0 < get_or ranks z 0 = p.rises y z edge (omega arith) in
        let high : get_or ranks z 0 ≤ 255 = p.either z in
        let t : get_or (slice_set ranks x placed) y 0 ≡ get_or ranks y 0 = there y (other y (omega
        arith)) in
        omega arith

-- the end
-- -------------------------------------------------------------------------------------------

names_get : (l : List ℕ) (z : ℕ) → names l z ≡ true → (j : ℕ) × (j < length l) × (get_or l j 0 ≡ z)
names_get [] z e = absurd (cc)
names_get (a ∷ l) z e = go (or_true _ _ e) (names_get l z)
  where
    go : ((a == z) ≡ true) ⊎ (names l z ≡ true) → (names l z ≡ true →
        (j : ℕ) × (j < length l) × (get_or l j 0 ≡ z)) →
        (j : ℕ) × (j < length (a ∷ l)) × (get_or (a ∷ l) j 0 ≡ z)
    go (inl i) r = (0, omega arith, eq_is a z i)
    go (inr i) r = let t = r i in let lt : t.0 < length l = t.1 in (suc t.0, omega arith, t.2)

get_names : (l : List ℕ) (j z : ℕ) → j < length l → get_or l j 0 ≡ z → names l z ≡ true
get_names [] j z h e = absurd (omega arith)
get_names (a ∷ l) zero z h e = or_left _ _ (same a z e)
get_names (a ∷ l) (suc j) z h e = or_right (a == z) _ (get_names l j z (omega arith) e)

sorted_by : (rank : ℕ → ℕ) (l : List ℕ) (from : ℕ) → ((j : ℕ) → j < length l →
    rank (get_or l j 0) ≡ from + j) → Sorted rank l
sorted_by rank [] from h = tt
sorted_by rank (x ∷ xs) from h = (
  λ z e. let t = names_get xs z e in let r = h (suc t.0) (let lt : t.0 < length xs = t.1 in
      omega arith) in let k : rank z ≡ rank (get_or xs t.0 0) = ap rank (sym t.2) in
      let o = h 0 (omega arith) in omega (arith, r, k, o),
  apart (names xs x) refl,
  sorted_by rank xs (suc from) (λ j lt. let r = h (suc j) (omega arith) in omega (arith, r)),
)
  where
    apart : (b : Bool) → names xs x ≡ b → b ≡ false
    apart true e = absurd (let t = names_get xs x e in
        let r = h (suc t.0) (let lt : t.0 < length xs = t.1 in omega arith) in
        let k : rank x ≡ rank (get_or xs t.0 0) = ap rank (sym t.2) in let o = h 0 (omega arith) in
        omega (arith, r, k, o))
    apart false e = refl

none_left : (ranks : List ℕ) → unplaced ranks ≡ 0 → (x : ℕ) → get_or ranks x 0 ≡ 255 → ⊥
none_left [] h x e = cc
none_left (r ∷ rs) h zero e = let p : (r == 255) ≡ true = same r 255 e in
    let q : one_if (r == 255) ≡ 1 = ap one_if p in omega (arith, h, q)
none_left (r ∷ rs) h (suc x) e = none_left rs (omega arith) x e

past_end : (l : List ℕ) (x : ℕ) → length l ≤ x → get_or l x 0 ≡ 0
past_end [] x h = refl
past_end (a ∷ l) zero h = absurd (omega arith)
past_end (a ∷ l) (suc x) h = past_end l x (omega arith)

default_any : (l : List ℕ) (k d : ℕ) → k < length l → get_or l k d ≡ get_or l k 0
default_any [] k d h = absurd (omega arith)
default_any (a ∷ l) zero d h = refl
default_any (a ∷ l) (suc k) d h = default_any l k d (omega arith)

-- where all nodes are placed, they are in order
pub all_ordered : (ns : List Node) (ranks order : List ℕ) (placed : ℕ) →
    PartOrder ns ranks order placed → length ns ≤ most_nodes → placed ≡ length ns → IsOrdered ns order
all_ordered ns ranks order placed p size e = (
  λ x. get_or ranks x 0,
  record {
    rises = λ x y edge. p.rises x y edge (ranked y);
    below = λ x. low x (nat_lt x (length
        ns)) refl;
  },
  record {
    sorted = sorted_by (λ x. get_or ranks x 0) order 0 (λ j lt. let o : length order ≡ length ns
        = p.order_size in let q = p.ordered j (omega arith) in omega (arith, q));
    whole = λ x lt. let w = p.ranked x lt (ranked x) in
        let o : length order ≡ length ns = p.order_size in
        let b : get_or ranks x 0 < placed = w.below in
        get_names order (get_or ranks x 0) x (omega arith) w.there;
  },
  λ k d lt. let o : length order ≡ length ns = p.order_size in
      let q : get_or order k 0 < length ns = p.in_order k (omega arith) in
      let s = default_any order k d lt in omega (arith, q, s),
)
  where
    ranked : (x : ℕ) → get_or ranks x 0 < 255
    ranked x = below_255 _ (p.either x) (none_left ranks (let l : placed + unplaced ranks ≡ length
        ns = p.left in omega (arith, e)) x)

    low : (x : ℕ) (b : Bool) → nat_lt x (length ns) ≡ b → get_or ranks x 0 < most_nodes
    low x true i = let lt : x < length ns = grind arith in
        let w : get_or ranks x 0 < placed = (p.ranked x lt (ranked x)).below in omega (arith, w, e)
    low x false i = let le : length ns ≤ x = grind arith in
        let z : length ranks ≡ length ns = p.ranks_size in let q = past_end ranks x (omega arith) in
        omega (arith, q)

full_unplaced : (ranks : List ℕ) (n : ℕ) → length ranks ≡ n → ((k : ℕ) → k < n →
    get_or ranks k 0 ≡ 255) → unplaced ranks ≡ n
full_unplaced [] n s h = s
full_unplaced (r ∷ rs) zero s h = absurd (cc)
full_unplaced (r ∷ rs) (suc n) s h =
    let p : one_if (r == 255) ≡ 1 = ap one_if (same r 255 (h 0 (omega arith))) in
    let q = full_unplaced rs n (omega arith) (λ k lt. h (suc k) (omega arith)) in
    omega (arith, p, q)

-- with no rank given yet, none of the nodes is placed, and these are in order
pub placing_none : (ns : List Node) (ranks order : List ℕ) → length ranks ≡ length ns →
    length order ≡ length ns → ((k : ℕ) → k < length ns → get_or ranks k 0 ≡ 255) →
    PartOrder ns ranks order 0
placing_none ns ranks order a b h = record {
  ranks_size = a;
  order_size = b;
  ranked = λ x lt r. absurd (let e = h x lt in omega (arith, e, r));
  either = λ x. high x (nat_lt x (length ns)) refl;
  in_order = λ k lt. absurd (omega arith);
  ordered = λ k lt. absurd (omega arith);
  rises = λ x y edge r. absurd (let e = h y (got ns y edge.target edge.is_target) in
      omega (arith, e, r));
  left = let u = full_unplaced ranks (length ns) a h in omega (arith, u);
}
  where
    high : (x : ℕ) (c : Bool) → nat_lt x (length ns) ≡ c → get_or ranks x 0 ≤ 255
    high x true i = let lt : x < length ns = grind arith in let e = h x lt in omega (arith, e)
    high x false i = let le : length ns ≤ x = grind arith in let q = past_end ranks x (omega arith) in
        omega (arith, q)

    got : (ns : List Node) (y : ℕ) (m : Node) → slice_get ns y ≡ Some m → y < length ns
    got [] y m e = absurd (cc)
    got (a ∷ l) zero m e = omega arith
    got (a ∷ l) (suc y) m e = let h = got l y m e in omega (arith, h)
