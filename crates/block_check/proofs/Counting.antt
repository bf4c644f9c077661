-- Whether a node waits, from the counts of its places.
use Rattle.std.proofs.Common.{◌≡◌, ◌≢◌, ℕ, zero, suc, ◌+◌, ◌<◌, ◌≤◌, Bool, true, false, ◌||◌, ◌&&◌}
use Rattle.std.proofs.Common.{◌⊎◌, inl, inr, List, [], ◌∷◌, length, get_or, Some, slice_get}
use Rattle.std.proofs.Common.{slice_set, refl, sym, ap, ap₂, ◌∙◌, subst, arith, nat_lt, nat_le}
use Rattle.std.proofs.Common.{◌==◌, true≢false}
use Rattle.block_cases.specs.declared.token.CaseToken.{CaseToken}
use Rattle.block_cases.specs.declared.token.CaseToken.TheVariants.{Absent, Null, Bit}
use Rattle.trips_isa.specs.declared.node.Node.{Node}
use Rattle.block_cases.specs.Nodes.{targets, names, hits, one_if, stores_below, feeds}
use Rattle.block_cases.specs.Cases.{weighed, tokens}
use Rattle.block_cases.specs.inside.Good.{NamesPlace}
use Rattle.block_check.specs.inside.Pass.{InPlace}
use Rattle.block_check.specs.inside.PartOrder.{Stuck, holding, waiting, Counting}
use Rattle.block_cases.proofs.Steady.{or_left, or_right}
use Rattle.block_cases.proofs.Alike.{or_true, and_true, both_true}
use Rattle.block_cases.proofs.AnyBits.{one_at}

not_true : (a : Bool) → (a ≡ true → ⊥) → a ≡ false
not_true true h = absurd (h refl)
not_true false h = refl

is_255 : (a : ℕ) → a ≡ 255 → (a == 255) ≡ true
is_255 a e = grind arith

from_255 : (a : ℕ) → (a == 255) ≡ true → a ≡ 255
from_255 a e = grind arith

null_there : (b : Bool) → b ≡ true → holding b ≢ Absent
null_there true e h = cc
null_there false e h = cc

holding_true : (b : Bool) → holding b ≢ Absent → b ≡ true
holding_true true h = refl
holding_true false h = absurd (h refl)

-- a count of 0 holds nothing up
pub free_place : (ns : List Node) (ranks : List ℕ) (q y : ℕ) (m : Node) →
    tokens ns (waiting ranks) q ≡ 0 → slice_get ns y ≡ Some m → get_or ranks y 0 ≡ 255 →
    names (targets m) q ≡ false
free_place ns ranks q y m z e r = not_true _ (λ n. let k = one_at ns (waiting ranks) q y (m, e, n)
    (null_there _ (is_255 _ r)) in omega (arith, k, z))

some_hit : (ts : List ℕ) (q : ℕ) → 0 < hits ts q → names ts q ≡ true
some_hit [] q h = absurd (omega arith)
some_hit (t ∷ ts) q h = go (t == q) h (some_hit ts q)
  where
    go : (b : Bool) → 0 < one_if b + hits ts q → (0 < hits ts q → names ts q ≡ true) →
        (b || names ts q) ≡ true
    go true h r = refl
    go false h r = r (omega arith)

some_weight : (t : CaseToken) (k : ℕ) → 0 < weighed t k → (t ≢ Absent) × (0 < k)
some_weight Absent k h = absurd (omega arith)
some_weight Null k h = (λ e. cc, h)
some_weight (Bit v) k h = (λ e. cc, h)

abbrev pub Holder : List Node → (ℕ → CaseToken) → ℕ → Type 0
Holder ns f q = (y : ℕ) × NamesPlace ns y q × (f y ≢ Absent)

-- a place that counts a token has a node that gives it
pub held_place : (ns : List Node) (f : ℕ → CaseToken) (q : ℕ) → 0 < tokens ns f q → Holder ns f q
held_place [] f q h = absurd (omega arith)
held_place (n ∷ ns) f q h = go (nat_lt 0 (weighed (f 0) (hits (targets n) q))) refl (held_place ns
    (λ y. f (suc y)) q)
  where
    go : (b : Bool) → nat_lt 0 (weighed (f 0) (hits (targets n) q)) ≡ b →
        (0 < tokens ns (λ y. f (suc y)) q → Holder ns (λ y. f (suc y)) q) → Holder (n ∷ ns) f q
    go true e r = let lt : 0 < weighed (f 0) (hits (targets n) q) = pos _ e in
        let w = some_weight (f 0) _ lt in (0, (n, refl, some_hit (targets n) q w.1), w.0)
      where
        pos : (k : ℕ) → nat_lt 0 k ≡ true → 0 < k
        pos k e = grind arith
    go false e r = let t = r (rest _ _ e h) in (suc t.0, (t.1.0, t.1.1, t.1.2), t.2)
      where
        rest : (a b : ℕ) → nat_lt 0 a ≡ false → 0 < a + b → 0 < b
        rest a b e h = grind arith

-- stores
below_place : (ts : List ℕ) (m : ℕ) → stores_below ts m ≡ true →
    (q : ℕ) × (416 ≤ q) × (q < m) × (names ts q ≡ true)
below_place [] m e = absurd (cc)
below_place (t ∷ ts) m e = go (or_true _ _ e) (below_place ts m)
  where
    same : (a : ℕ) → (a == a) ≡ true
    same a = grind arith

    low : (a : ℕ) → nat_le 416 a ≡ true → 416 ≤ a
    low a e = grind arith

    high : (a b : ℕ) → nat_lt a b ≡ true → a < b
    high a b e = grind arith

    go : ((nat_le 416 t && nat_lt t m) ≡ true) ⊎ (stores_below ts m ≡ true) →
        (stores_below ts m ≡ true → (q : ℕ) × (416 ≤ q) × (q < m) × (names ts q ≡ true)) →
        (q : ℕ) × (416 ≤ q) × (q < m) × (names (t ∷ ts) q ≡ true)
    go (inl i) r = let w = and_true _ _ i in (t, low t w.0, high t m w.1, or_left _ _ (same t))
    go (inr i) r = let w = r i in (w.0, w.1, w.2, or_right (t == w.0) _ w.3)

place_below : (ts : List ℕ) (m q : ℕ) → 416 ≤ q → q < m → names ts q ≡ true →
    stores_below ts m ≡ true
place_below [] m q a b e = absurd (cc)
place_below (t ∷ ts) m q a b e = go (or_true _ _ e) (place_below ts m q a b)
  where
    eq : (x y : ℕ) → (x == y) ≡ true → x ≡ y
    eq x y e = grind arith

    low : (x : ℕ) → 416 ≤ x → nat_le 416 x ≡ true
    low x h = grind arith

    high : (x y : ℕ) → x < y → nat_lt x y ≡ true
    high x y h = grind arith

    go : ((t == q) ≡ true) ⊎ (names ts q ≡ true) → (names ts q ≡ true → stores_below ts m ≡ true) →
        stores_below (t ∷ ts) m ≡ true
    go (inl i) r = let s : t ≡ q = eq t q i in or_left _ _ (both_true _ _ (low t (omega arith))
        (high t m (omega arith)))
    go (inr i) r = or_right (nat_le 416 t && nat_lt t m) _ (r i)

or_falses : (a b : Bool) → (a || b) ≡ false → (a ≡ false) × (b ≡ false)
or_falses true b e = absurd (cc)
or_falses false b e = (refl, e)

zero_of : (k : ℕ) → nat_lt 0 k ≡ false → k ≡ 0
zero_of k e = grind arith

pos_of : (k : ℕ) → nat_lt 0 k ≡ true → 0 < k
pos_of k e = grind arith

abbrev pub Blocked : List ℕ → Node → Bool → Bool
Blocked counts n any = nat_lt 0 (get_or counts n.slot 0)
    || (nat_lt 0 (get_or counts (128 + n.slot) 0) || (nat_lt 0 (get_or counts (256 + n.slot) 0)
    || any))

pub is_free : (ns : List Node) (ranks counts : List ℕ) (n : Node) (a b c d : Bool) →
    Counting ns ranks counts → InPlace n →
    nat_lt 0 (get_or counts n.slot 0) ≡ false → nat_lt 0 (get_or counts (128 + n.slot) 0) ≡ false →
    nat_lt 0 (get_or counts (256 + n.slot) 0) ≡ false →
    ((q : ℕ) → 416 ≤ q → q < n.below → get_or counts q 0 ≡ 0) → (y : ℕ) (m : Node) →
    slice_get ns y ≡ Some m → get_or ranks y 0 ≡ 255 → feeds m n ≡ false
is_free ns ranks counts n a b c d k p l r g s y m e w =
    let in_slot : n.slot < 512 = p.slot in
    ap₂ (λ u v. u || v) (at n.slot (omega arith) (zero_of _ l))
    (ap₂ (λ u v. u || v) (at (128 + n.slot) (omega arith) (zero_of _ r))
    (ap₂ (λ u v. u || v) (at (256 + n.slot) (omega arith) (zero_of _ g))
    (not_true _ (λ t. let f = below_place (targets m) n.below t in
    let in_below : n.below < 768 = p.below in let lt : f.0 < n.below = f.2 in
    true≢false (sym f.3 ∙ at f.0 (omega arith) (s f.0 f.1 f.2))))))
  where
    at : (q : ℕ) → q < 768 → get_or counts q 0 ≡ 0 → names (targets m) q ≡ false
    at q lt z = free_place ns ranks q y m (sym (k q lt) ∙ z) e w

stuck_at : (ns : List Node) (ranks counts : List ℕ) (n : Node) (q : ℕ) → Counting ns ranks counts →
    q < 768 → 0 < get_or counts q 0 → ((m : Node) → names (targets m) q ≡ true → feeds m n ≡ true) →
    Stuck ns ranks n
stuck_at ns ranks counts n q k lt h f =
    let t = held_place ns (waiting ranks) q (subst (λ c. 0 < c) (k q lt) h) in
    record {
      source = t.0;
      node = t.1.0;
      is_node = t.1.1;
      waits = from_255 _ (holding_true _ t.2);
      fed = f t.1.0 t.1.2;
    }

pub is_stuck : (ns : List Node) (ranks counts : List ℕ) (n : Node) (any : Bool) →
    Counting ns ranks counts → InPlace n →
    (any ≡ true → (q : ℕ) × (416 ≤ q) × (q < n.below) × (0 < get_or counts q 0)) →
    Blocked counts n any ≡ true → Stuck ns ranks n
is_stuck ns ranks counts n any k p s e = one (or_true _ _ e)
  where
    four : any ≡ true → Stuck ns ranks n
    four t =
        let f = s t in
        let in_below : n.below < 768 = p.below in
        let lt : f.0 < n.below = f.2 in
        stuck_at ns ranks counts n f.0 k (omega arith) f.3 (λ m h. or_right (names (targets m)
        n.slot) _ (or_right (names (targets m) (128 + n.slot)) _ (or_right (names (targets m)
        (256 + n.slot)) _ (place_below (targets m) n.below f.0 f.1 f.2 h))))

    three : (nat_lt 0 (get_or counts (256 + n.slot) 0) ≡ true) ⊎ (any ≡ true) → Stuck ns ranks n
    three (inl t) = stuck_at ns ranks counts n (256 + n.slot) k (let l : n.slot < 512 = p.slot in
        omega arith) (pos_of _ t) (λ m h. or_right (names (targets m) n.slot) _ (or_right (names
        (targets m) (128 + n.slot)) _ (or_left _ _ h)))
    three (inr t) = four t

    two : (nat_lt 0 (get_or counts (128 + n.slot) 0) ≡ true) ⊎ ((nat_lt 0 (get_or counts (256 +
        n.slot) 0) || any) ≡ true) → Stuck ns ranks n
    two (inl t) = stuck_at ns ranks counts n (128 + n.slot) k (let l : n.slot < 512 = p.slot in
        omega arith) (pos_of _ t) (λ m h. or_right (names (targets m) n.slot) _ (or_left _ _ h))
    two (inr t) = three (or_true _ _ t)

    one : (nat_lt 0 (get_or counts n.slot 0) ≡ true) ⊎ ((nat_lt 0 (get_or counts (128 + n.slot) 0)
        || (nat_lt 0 (get_or counts (256 + n.slot) 0) || any)) ≡ true) → Stuck ns ranks n
    one (inl t) = stuck_at ns ranks counts n n.slot k (let l : n.slot < 512 = p.slot in
        omega arith) (pos_of _ t) (λ m h. or_left _ _ h)
    one (inr t) = two (or_true _ _ t)

-- placing a node takes its targets away
pub placed_one : (ns : List Node) (ranks : List ℕ) (x v : ℕ) (n : Node) (q : ℕ) →
    slice_get ns x ≡ Some n → x < length ranks → get_or ranks x 0 ≡ 255 → v < 255 →
    tokens ns (waiting (slice_set ranks x v)) q + hits (targets n) q ≡ tokens ns (waiting ranks) q
placed_one [] ranks x v n q e l r h = absurd (cc)
placed_one (m ∷ ms) [] x v n q e l r h = absurd (omega arith)
placed_one (m ∷ ms) (a ∷ l) zero v n q e lt r h =
    let same : m ≡ n = cc in
    let was : weighed (holding (a == 255)) (hits (targets m) q) ≡ hits (targets m) q = ap (λ b.
    weighed (holding b) (hits (targets m) q)) (is_255 a r) in
    let now : weighed (holding (v == 255)) (hits (targets m) q) ≡ 0 = ap (λ b. weighed (holding b)
    (hits (targets m) q)) (below v h) in
    let h : hits (targets m) q ≡ hits (targets n) q = ap (λ (k : Node). hits (targets k) q) same in
    omega (arith, was, now, h)
  where
    below : (v : ℕ) → v < 255 → (v == 255) ≡ false
    below v h = grind arith
placed_one (m ∷ ms) (a ∷ l) (suc x) v n q e lt r h = let k = placed_one ms l x v n q e (omega
    arith) r h in omega (arith, k)

-- at the start nothing is placed
pub all_waiting : (ns : List Node) (ranks : List ℕ) (f : ℕ → CaseToken) (q : ℕ) → ((k : ℕ) →
    k < length ns → get_or ranks k 0 ≡ 255) → ((k : ℕ) → k < length ns → f k ≡ Null) →
    tokens ns f q ≡ tokens ns (waiting ranks) q
all_waiting ns ranks f q h g = go ns f (waiting ranks) (λ k lt. g k lt
    ∙ sym (ap holding (is_255 _ (h k lt))))
  where
    go : (ns : List Node) (f g : ℕ → CaseToken) → ((k : ℕ) → k < length ns → f k ≡ g k) →
        tokens ns f q ≡ tokens ns g q
    go [] f g h = refl
    go (n ∷ ns) f g h = ap₂ (λ a b. a + b) (ap (λ t. weighed t (hits (targets n) q)) (h 0 (omega
        arith))) (go ns (λ y. f (suc y)) (λ y. g (suc y)) (λ k lt. h (suc k) (omega arith)))

-- a node whose places wait for no token is fed by no node that is not placed yet
pub not_blocked : (ns : List Node) (ranks counts : List ℕ) (n : Node) (l r g any : Bool) →
    Counting ns ranks counts → InPlace n →
    l ≡ nat_lt 0 (get_or counts n.slot 0) → r ≡ nat_lt 0 (get_or counts (128 + n.slot) 0) →
    g ≡ nat_lt 0 (get_or counts (256 + n.slot) 0) →
    (any ≡ false → (q : ℕ) → 416 ≤ q → q < n.below → get_or counts q 0 ≡ 0) →
    (l || (r || (g || any))) ≡ false → (y : ℕ) (m : Node) → slice_get ns y ≡ Some m →
    get_or ranks y 0 ≡ 255 → feeds m n ≡ false
not_blocked ns ranks counts n l r g any k p a b c s e =
    let u = or_falses _ _ e in
    let v = or_falses _ _ u.1 in
    let w = or_falses _ _ v.1 in
    is_free ns ranks counts n l r g any k p (sym a ∙ u.0) (sym b ∙ v.0) (sym c ∙ w.0) (s w.1)

-- a node of which a place waits for a token is stuck
pub blocked : (ns : List Node) (ranks counts : List ℕ) (n : Node) (l r g any : Bool) →
    Counting ns ranks counts → InPlace n →
    l ≡ nat_lt 0 (get_or counts n.slot 0) → r ≡ nat_lt 0 (get_or counts (128 + n.slot) 0) →
    g ≡ nat_lt 0 (get_or counts (256 + n.slot) 0) →
    (any ≡ true → (q : ℕ) × (416 ≤ q) × (q < n.below) × (0 < get_or counts q 0)) →
    (l || (r || (g || any))) ≡ true → Stuck ns ranks n
blocked ns ranks counts n l r g any k p a b c s e =
    is_stuck ns ranks counts n any k p s (sym (ap (λ z. z || (r || (g || any))) a
    ∙ ap (λ z. nat_lt 0 (get_or counts n.slot 0) || (z || (g || any))) b
    ∙ ap (λ z. nat_lt 0 (get_or counts n.slot 0) || (nat_lt 0 (get_or counts (128 + n.slot) 0)
    || (z || any))) c) ∙ e)

-- a place waits for at least the tokens of each node that is not placed yet
pub held : (ns : List Node) (ranks counts : List ℕ) (x : ℕ) (n : Node) (q : ℕ) →
    Counting ns ranks counts → q < 768 → slice_get ns x ≡ Some n → x < length ranks →
    get_or ranks x 0 ≡ 255 → hits (targets n) q ≤ get_or counts q 0
held ns ranks counts x n q k lt e l r = let p = placed_one ns ranks x 0 n q e l r (omega arith) in
    let c = k q lt in omega (arith, p, c)

-- where a node is placed and its tokens are taken off the counts, these count the nodes that are left
pub counts_on : (ns : List Node) (ranks ranks' counts counts' : List ℕ) (x v : ℕ) (n : Node) →
    Counting ns ranks counts → slice_get ns x ≡ Some n → x < length ranks → get_or ranks x 0 ≡ 255 →
    v < 255 → ranks' ≡ slice_set ranks x v →
    ((q : ℕ) → q < 768 → get_or counts' q 0 + hits (targets n) q ≡ get_or counts q 0) →
    Counting ns ranks' counts'
counts_on ns ranks ranks' counts counts' x v n k e l r few is d q lt =
    let p = placed_one ns ranks x v n q e l r few in
    let c = k q lt in
    let m = d q lt in
    let s : tokens ns (waiting ranks') q ≡ tokens ns (waiting (slice_set ranks x v)) q = ap (λ (z :
    List ℕ). tokens ns (waiting z) q) is in
    omega (arith, p, c, m, s)
