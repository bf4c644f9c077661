-- One pass along an order of the nodes.
use Rattle.std.proofs.Common.{◌≡◌, ◌≢◌, ℕ, zero, suc, ◌+◌, ◌<◌, ◌≤◌, Bool, true, false, cond, ◌||◌}
use Rattle.std.proofs.Common.{◌==◌, nat_lt, List, [], ◌∷◌, length, Some, slice_get}
use Rattle.std.proofs.Common.{drop, subst, slice_set, refl, sym, ap, ap₂, ◌∙◌, arith, true≢false}
use Rattle.block_cases.specs.declared.token.CaseToken.{CaseToken}
use Rattle.block_cases.specs.declared.token.CaseToken.TheVariants.{Absent, Null, Bit}
use Rattle.trips_isa.specs.declared.node.Node.{Node}
use Rattle.trips_isa.specs.PlaceNumbers.{no_place}
use Rattle.block_cases.specs.Nodes.{targets, names, hits, one_if, Ranked}
use Rattle.block_cases.specs.CaseRule.{no, taken, or_else, first, pulled, fire}
use Rattle.block_cases.specs.Cases.{present, weighed, tokens}
use Rattle.block_cases.proofs.Steady.{or_left, or_right, fire_same, pulled_same, Solves}
use Rattle.block_check.specs.inside.Pass.{tok_at, Spare}
use Rattle.block_check.specs.inside.Passing.{Given, Passing}
use Rattle.block_check.specs.inside.PartOrder.{IsOrdered}
use Rattle.block_check.specs.inside.Walk.{Order}
use Rattle.block_check.proofs.Cycles.{eq_is, eq_not, same}
use Rattle.block_check.proofs.Lists.{not_true}
use Rattle.block_check.proofs.Rounds.{taken_is, far, far_node}
use Rattle.block_check.proofs.Sparing.{first_none, pulled_spare}

-- tokens that change at one node ------------------------------------------------------------------

pub set_here : (ts : List CaseToken) (x : ℕ) (t : CaseToken) → x < length ts →
    tok_at (slice_set ts x t) x ≡ t
set_here [] x t lt = absurd (omega arith)
set_here (v ∷ vs) zero t lt = refl
set_here (v ∷ vs) (suc x) t lt = set_here vs x t (omega arith)

pub set_there : (ts : List CaseToken) (x y : ℕ) (t : CaseToken) → x ≢ y →
    tok_at (slice_set ts x t) y ≡ tok_at ts y
set_there [] x y t h = refl
set_there (v ∷ vs) zero zero t h = absurd (h refl)
set_there (v ∷ vs) zero (suc y) t h = refl
set_there (v ∷ vs) (suc x) zero t h = refl
set_there (v ∷ vs) (suc x) (suc y) t h = set_there vs x y t (λ e. h (ap suc e))

no_else : (u : CaseToken) → or_else u Absent ≡ u
no_else Absent = refl
no_else Null = refl
no_else (Bit v) = refl

first_ext : (ns : List Node) (q : ℕ) (f g : ℕ → CaseToken) → ((y : ℕ) → f y ≡ g y) →
    first ns q f ≡ first ns q g
first_ext ns q f g h = λ i. first ns q (λ y. h y i)

tokens_ext : (ns : List Node) (q : ℕ) (f g : ℕ → CaseToken) → ((y : ℕ) → f y ≡ g y) →
    tokens ns f q ≡ tokens ns g q
tokens_ext ns q f g h = λ i. tokens ns (λ y. h y i) q

-- a token that is put before or behind another one, where not both are there
swap : (a c u : CaseToken) → (c ≢ Absent → or_else a u ≡ Absent) →
    or_else a (or_else c u) ≡ or_else c (or_else a u)
swap Absent c u h = refl
swap Null Absent u h = refl
swap Null Null u h = refl
swap Null (Bit w) u h = absurd (let e : Null ≡ Absent = h (λ e. cc) in cc)
swap (Bit v) Absent u h = refl
swap (Bit v) Null u h = absurd (let e : Bit v ≡ Absent = h (λ e. cc) in cc)
swap (Bit v) (Bit w) u h = absurd (let e : Bit v ≡ Absent = h (λ e. cc) in cc)

else_none : (a u : CaseToken) → or_else a u ≡ Absent → u ≡ Absent
else_none Absent u e = e
else_none Null u e = absurd (cc)
else_none (Bit v) u e = absurd (cc)

-- the token of node x is put to the places that it names
pub first_put : (ns : List Node) (x : ℕ) (n : Node) (q : ℕ) (f g : ℕ → CaseToken) →
    slice_get ns x ≡ Some n → f x ≡ Absent → ((y : ℕ) → x ≢ y → g y ≡ f y) →
    (cond (names (targets n) q) (g x) Absent ≢ Absent → first ns q f ≡ Absent) →
    first ns q g ≡ or_else (cond (names (targets n) q) (g x) Absent) (first ns q f)
first_put [] x n q f g e z h i = absurd (cc)
first_put (m ∷ ms) zero n q f g e z h i =
    let is : m ≡ n = cc in
    ap₂ or_else (taken_is (names (targets m) q) g ∙ ap (λ (k : Node). cond (names (targets k) q) (g
    0) Absent) is) (first_ext ms q (λ y. g (suc y)) (λ y. f (suc y)) (λ y. h (suc y) (λ e. omega (arith, e))))
    ∙ ap (λ u. or_else (cond (names (targets n) q) (g 0) Absent) (or_else u (first ms q (λ y. f (suc
    y))))) (sym (taken_is (names (targets m) q) f ∙ ap (λ u. cond (names (targets m) q) u Absent) z
    ∙ none (names (targets m) q)))
  where
    none : (b : Bool) → cond b Absent Absent ≡ Absent
    none true = refl
    none false = refl
first_put (m ∷ ms) (suc x) n q f g e z h i =
    ap₂ or_else
    (taken_is (names (targets m) q) g
    ∙ ap (λ u. cond (names (targets m) q) u Absent) (h 0 (λ e. omega (arith, e)))
    ∙ sym (taken_is (names (targets m) q) f))
    (first_put ms x n q (λ y. f (suc y)) (λ y. g (suc y)) e z
    (λ y d. h (suc y) (λ k. d (omega (arith, k))))
    (λ d. else_none (taken (names (targets m) q) f) _ (i d)))
    ∙ swap (taken (names (targets m) q) f) (cond (names (targets n) q) (g (suc x)) Absent)
    (first ms q (λ y. f (suc y))) i

-- a place has so many more tokens
pub tokens_put : (ns : List Node) (x : ℕ) (n : Node) (q : ℕ) (f g : ℕ → CaseToken) →
    slice_get ns x ≡ Some n → f x ≡ Absent → ((y : ℕ) → x ≢ y → g y ≡ f y) →
    tokens ns g q ≡ weighed (g x) (hits (targets n) q) + tokens ns f q
tokens_put [] x n q f g e z h = absurd (cc)
tokens_put (m ∷ ms) zero n q f g e z h =
    let is : m ≡ n = cc in
    let a : weighed (g 0) (hits (targets m) q) ≡ weighed (g 0) (hits (targets n) q)
    = ap (λ (k : Node). weighed (g 0) (hits (targets k) q)) is in
    let b : weighed (f 0) (hits (targets m) q) ≡ 0 = ap (λ u. weighed u (hits (targets m) q)) z in
    let c : tokens ms (λ y. g (suc y)) q ≡ tokens ms (λ y. f (suc y)) q
    = tokens_ext ms q (λ y. g (suc y)) (λ y. f (suc y)) (λ y. h (suc y) (λ e. omega (arith, e))) in
    omega (arith, a, b, c)
tokens_put (m ∷ ms) (suc x) n q f g e z h =
    let a : weighed (g 0) (hits (targets m) q) ≡ weighed (f 0) (hits (targets m) q)
    = ap (λ u. weighed u (hits (targets m) q)) (h 0 (λ e. omega (arith, e))) in
    let b = tokens_put ms x n q (λ y. f (suc y)) (λ y. g (suc y)) e z (λ y d. h (suc y) (λ k. d (omega (arith, k)))) in
    omega (arith, a, b)

-- a place without a token counts none, and one with a token some
hit_named : (ts : List ℕ) (q : ℕ) → names ts q ≡ true → 0 < hits ts q
hit_named [] q e = absurd (cc)
hit_named (t ∷ ts) q e = go (t == q) e (hit_named ts q)
  where
    go : (b : Bool) → (b || names ts q) ≡ true → (names ts q ≡ true → 0 < hits ts q) →
        0 < one_if b + hits ts q
    go true e r = omega arith
    go false e r = let k = r e in omega (arith, k)

hit_none : (ts : List ℕ) (q : ℕ) → names ts q ≡ false → hits ts q ≡ 0
hit_none [] q e = refl
hit_none (t ∷ ts) q e = go (t == q) e (hit_none ts q)
  where
    go : (b : Bool) → (b || names ts q) ≡ false → (names ts q ≡ false → hits ts q ≡ 0) →
        one_if b + hits ts q ≡ 0
    go true e r = absurd (true≢false e)
    go false e r = let k = r e in omega (arith, k)

pub none_counted : (ns : List Node) (q : ℕ) (f : ℕ → CaseToken) →
    no (present (first ns q f)) ≡ (tokens ns f q == 0)
none_counted [] q f = refl
none_counted (n ∷ ns) q f = go (none_counted ns q (λ y. f (suc y))) (names (targets n) q) refl (f 0) refl
  where
    zero_sum : (a b : ℕ) → a ≡ 0 → (b == 0) ≡ ((a + b) == 0)
    zero_sum a b e = ap (λ k. k == 0) (omega (arith, e))

    some_sum : (a b : ℕ) → 0 < a → false ≡ ((a + b) == 0)
    some_sum a b lt = sym (not_true ((a + b) == 0) (λ i. let z = eq_is (a + b) 0 i in omega (arith, lt, z)))

    null : (t : CaseToken) → weighed t 0 ≡ 0
    null Absent = refl
    null Null = refl
    null (Bit v) = refl

    go : no (present (first ns q (λ y. f (suc y)))) ≡ (tokens ns (λ y. f (suc y)) q == 0) →
        (b : Bool) → names (targets n) q ≡ b → (t : CaseToken) → f 0 ≡ t →
        no (present (or_else (taken (names (targets n) q) f) (first ns q (λ y. f (suc y)))))
        ≡ ((weighed (f 0) (hits (targets n) q) + tokens ns (λ y. f (suc y)) q) == 0)
    go again false e t i =
        ap (λ u. no (present (or_else (taken u f) (first ns q (λ y. f (suc y)))))) e ∙ again
        ∙ zero_sum (weighed (f 0) (hits (targets n) q)) _ (ap (weighed (f 0)) (hit_none (targets n) q e) ∙ null (f 0))
    go again true e Absent i =
        ap (λ u. no (present (or_else (taken u f) (first ns q (λ y. f (suc y)))))) e
        ∙ ap (λ u. no (present (or_else u (first ns q (λ y. f (suc y)))))) i ∙ again
        ∙ zero_sum (weighed (f 0) (hits (targets n) q)) _ (ap (λ u. weighed u (hits (targets n) q)) i)
    go again true e Null i =
        ap (λ u. no (present (or_else (taken u f) (first ns q (λ y. f (suc y)))))) e
        ∙ ap (λ u. no (present (or_else u (first ns q (λ y. f (suc y)))))) i
        ∙ some_sum (hits (targets n) q) (tokens ns (λ y. f (suc y)) q) (hit_named (targets n) q e)
        ∙ ap (λ u. (weighed u (hits (targets n) q) + tokens ns (λ y. f (suc y)) q) == 0) (sym i)
    go again true e (Bit v) i =
        ap (λ u. no (present (or_else (taken u f) (first ns q (λ y. f (suc y)))))) e
        ∙ ap (λ u. no (present (or_else u (first ns q (λ y. f (suc y)))))) i
        ∙ some_sum (hits (targets n) q) (tokens ns (λ y. f (suc y)) q) (hit_named (targets n) q e)
        ∙ ap (λ u. (weighed u (hits (targets n) q) + tokens ns (λ y. f (suc y)) q) == 0) (sym i)

is_zero : (a : ℕ) → (a == 0) ≡ true → a ≡ 0
is_zero a e = grind arith

pub none_of : (ns : List Node) (q : ℕ) (f : ℕ → CaseToken) → first ns q f ≡ Absent → tokens ns f q ≡ 0
none_of ns q f e = is_zero _ (sym (none_counted ns q f) ∙ ap (λ u. no (present u)) e)

-- one node more ----------------------------------------------------------------------------------

or_both : (a b : Bool) → a ≡ false → b ≡ false → (a || b) ≡ false
or_both a b e i = ap (λ u. u || b) e ∙ i

same_self : (x : ℕ) (xs : List ℕ) → names (x ∷ xs) x ≡ true
same_self x xs = or_left (x == x) (names xs x) (same x x refl)

next_before : (ns : List Node) (rank : ℕ → ℕ) (x : ℕ) (xs : List ℕ) (c : ℕ → Bool) (sp ts : List
    CaseToken) → Passing ns rank (x ∷ xs) c sp ts → (y z : ℕ) → y < length ns →
    names xs y ≡ false → names xs z ≡ true → rank y ≤ rank z
next_before ns rank x xs c sp ts p y z lt a b = go (x == y) refl
  where
    go : (d : Bool) → (x == y) ≡ d → rank y ≤ rank z
    go true i = let r : rank x ≡ rank y = ap rank (eq_is x y i) in
        let le : rank x ≤ rank z = p.sorted.0 z b in omega (arith, r, le)
    go false i = p.before y z lt (or_both _ _ i a) (or_right (x == z) _ b)

-- an empty slot at the end is done as it is
pub skip : (ns : List Node) (rank : ℕ → ℕ) (x : ℕ) (xs : List ℕ) (c : ℕ → Bool) (sp ts : List
    CaseToken) (used : ℕ) → Spare ns used → used ≤ x → Passing ns rank (x ∷ xs) c sp ts →
    Passing ns rank xs c sp ts
skip ns rank x xs c sp ts used spare le p = record {
  sorted = p.sorted.2;
  before = next_before ns rank x xs c sp ts p;
  left = λ y k. p.left y (or_right (x == y) _ k);
  done = λ y b k. go y b k (x == y) refl;
  places = p.places;
  single = p.single;
}
  where
    here : tok_at ts x ≡ pulled (slice_get ns x) (c x) (λ q. first ns q (tok_at ts))
    here = p.left x (same_self x xs) ∙ sym (pulled_spare ns used x (c x) (λ q. first ns q (tok_at
        ts)) spare le)

    go : (y : ℕ) → y < length ns → names xs y ≡ false → (d : Bool) → (x == y) ≡ d →
        tok_at ts y ≡ pulled (slice_get ns y) (c y) (λ q. first ns q (tok_at ts))
    go y b k true i = subst (λ z. tok_at ts z ≡ pulled (slice_get ns z) (c z) (λ q. first ns q
        (tok_at ts))) (eq_is x y i) here
    go y b k false i = p.done y b (or_both _ _ i k)

-- a node is done whose token goes to places that had none
pub step : (ns : List Node) (rank : ℕ → ℕ) → Ranked ns rank → (x : ℕ) (xs : List
    ℕ) (n : Node) (c : ℕ → Bool) (sp sp' ts ts' : List CaseToken) (t : CaseToken) →
    slice_get ns x ≡ Some n → n.slot < 512 → 256 + n.slot ≢ no_place → x < length ts →
    t ≡ fire n (c x) (tok_at sp n.slot) (tok_at sp (128 + n.slot)) (tok_at sp (256 + n.slot)) →
    ts' ≡ slice_set ts x t → Given sp sp' n t → Passing ns rank (x ∷ xs) c sp ts →
    Passing ns rank xs c sp' ts'
step ns rank o x xs n c sp sp' ts ts' t e fit apart lt fires is giv p = record {
  sorted = p.sorted.2;
  before = next_before ns rank x xs c sp ts p;
  left = λ y k. there y (λ j. true≢false (sym k ∙ ap (names xs) (sym j) ∙ p.sorted.1)) ∙ p.left y
      (or_right (x == y) _ k);
  done = λ y b k. go y b k (x == y) refl;
  places = λ q b d. giv.set q d ∙ ap (or_else (cond (names (targets n) q) t Absent)) (p.places q b d)
      ∙ sym (put q b d);
  single = λ q b d. few q b d (names (targets n) q) refl t refl;
}
  where
    here : tok_at ts' x ≡ t
    here = ap (λ l. tok_at l x) is ∙ set_here ts x t lt

    there : (y : ℕ) → x ≢ y → tok_at ts' y ≡ tok_at ts y
    there y d = ap (λ l. tok_at l y) is ∙ set_there ts x y t d

    none : tok_at ts x ≡ Absent
    none = p.left x (same_self x xs)

    -- what a node of no higher rank pulls stays
    pulls : (y : ℕ) → rank y ≤ rank x → pulled (slice_get ns y) (c y) (λ q. first ns q (tok_at ts))
        ≡ pulled (slice_get ns y) (c y) (λ q. first ns q (tok_at ts'))
    pulls y le = pulled_same ns y (c y) (tok_at ts) (tok_at ts') (λ z edge. sym (there z (λ k.
        let up : rank z < rank y = o.rises z y edge in
        let r : rank x ≡ rank z = ap rank k in omega (arith, up, r, le))))

    free : (q : ℕ) → q < 768 → q ≢ no_place → (b : Bool) → names (targets n) q ≡ b →
        cond b (tok_at ts' x) Absent ≢ Absent → first ns q (tok_at ts) ≡ Absent
    free q b d true i k = sym (p.places q b d) ∙ giv.free (λ j. k (here ∙ j)) q d i
    free q b d false i k = absurd (k refl)

    put : (q : ℕ) → q < 768 → q ≢ no_place → first ns q (tok_at ts') ≡ or_else (cond (names (targets
        n) q) t Absent) (first ns q (tok_at ts))
    put q b d =
        first_put ns x n q (tok_at ts) (tok_at ts') e none there (free q b d (names (targets n) q)
        refl)
        ∙ ap (λ u. or_else (cond (names (targets n) q) u Absent) (first ns q (tok_at ts))) here

    done_here : tok_at ts' x ≡ pulled (slice_get ns x) (c x) (λ q. first ns q (tok_at ts'))
    done_here =
        here ∙ fires
        ∙ fire_same n (c x) _ _ _ _ _ _
        (p.places n.slot (omega (arith, fit)) (λ k. omega (arith, fit, k)))
        (p.places (128 + n.slot) (omega (arith, fit)) (λ k. omega (arith, fit, k)))
        (p.places (256 + n.slot) (omega (arith, fit)) apart)
        ∙ ap (λ w. pulled w (c x) (λ q. first ns q (tok_at ts))) (sym e)
        ∙ pulls x (omega arith)

    go : (y : ℕ) → y < length ns → names xs y ≡ false → (d : Bool) → (x == y) ≡ d →
        tok_at ts' y ≡ pulled (slice_get ns y) (c y) (λ q. first ns q (tok_at ts'))
    go y b k true i = subst (λ z. tok_at ts' z ≡ pulled (slice_get ns z) (c z) (λ q. first ns q
        (tok_at ts'))) (eq_is x y i) done_here
    go y b k false i =
        let not : names (x ∷ xs) y ≡ false = or_both _ _ i k in
        there y (eq_not x y i) ∙ p.done y b not ∙ pulls y (p.before y x b not (same_self x xs))

    sum : (q : ℕ) → tokens ns (tok_at ts') q ≡ weighed t (hits (targets n) q) + tokens ns (tok_at ts) q
    sum q = tokens_put ns x n q (tok_at ts) (tok_at ts') e none there
        ∙ ap (λ u. weighed u (hits (targets n) q) + tokens ns (tok_at ts) q) here

    weighed_le : (u : CaseToken) (k : ℕ) → weighed u k ≤ k
    weighed_le Absent k = omega arith
    weighed_le Null k = omega arith
    weighed_le (Bit v) k = omega arith

    single : (q : ℕ) → q < 768 → q ≢ no_place → names (targets n) q ≡ true → t ≢ Absent →
        tokens ns (tok_at ts') q ≤ 1
    single q b d i h =
        let s = sum q in let w = weighed_le t (hits (targets n) q) in
        let m = giv.single h q d in
        let z = none_of ns q (tok_at ts) (sym (p.places q b d) ∙ giv.free h q d i) in
        omega (arith, s, w, m, z)

    few : (q : ℕ) → q < 768 → q ≢ no_place → (b : Bool) → names (targets n) q ≡ b → (u : CaseToken) →
        t ≡ u → tokens ns (tok_at ts') q ≤ 1
    few q b d false i u j =
        let s = sum q in let w = weighed_le t (hits (targets n) q) in
        let z = hit_none (targets n) q i in let l = p.single q b d in omega (arith, s, w, z, l)
    few q b d true i Absent j =
        let s = sum q in let w : weighed t (hits (targets n) q) ≡ 0 = ap (λ u. weighed u (hits
        (targets n) q)) j in let l = p.single q b d in omega (arith, s, w, l)
    few q b d true i Null j = single q b d i (λ k. let m : Null ≡ Absent = sym j ∙ k in cc)
    few q b d true i (Bit v) j = single q b d i (λ k. let m : Bit v ≡ Absent = sym j ∙ k in cc)

-- from the first node to the last ----------------------------------------------------------------

-- with no token yet every node is left
pub start : (ns : List Node) (rank : ℕ → ℕ) (order : List ℕ) → Order ns rank order →
    (c : ℕ → Bool) (sp ts : List CaseToken) → ((q : ℕ) → q < 768 → tok_at sp q ≡ Absent) →
    ((y : ℕ) → tok_at ts y ≡ Absent) → Passing ns rank order c sp ts
start ns rank order w c sp ts s h = record {
  sorted = w.sorted;
  before = λ y z lt a b. absurd (true≢false (sym (w.whole y lt) ∙ a));
  left = λ y k. h y;
  done = λ y lt k. absurd (true≢false (sym (w.whole y lt) ∙ k));
  places = λ q b d. s q b ∙ sym (first_none ns q (tok_at ts) h);
  single = λ q b d. let z = none_of ns q (tok_at ts) (first_none ns q (tok_at ts) h) in omega (arith, z);
}

-- where no node is left each gave what it gives
pub solved : (ns : List Node) (rank : ℕ → ℕ) (c : ℕ → Bool) (sp ts : List CaseToken) →
    length ts ≡ length ns → Passing ns rank [] c sp ts → Solves ns c (tok_at ts)
solved ns rank c sp ts size p x = go (nat_lt x (length ns)) refl
  where
    go : (b : Bool) → nat_lt x (length ns) ≡ b →
        tok_at ts x ≡ pulled (slice_get ns x) (c x) (λ q. first ns q (tok_at ts))
    go true i = p.done x (grind arith) refl
    go false i =
        let le : length ns ≤ x = grind arith in
        far ts x (omega (arith, size, le))
        ∙ ap (λ w. pulled w (c x) (λ q. first ns q (tok_at ts))) (sym (far_node ns x le))

-- behind the last node there is none
pub drop_all : (l : List ℕ) (k : ℕ) → length l ≤ k → drop k l ≡ []
drop_all [] zero le = refl
drop_all [] (suc k) le = refl
drop_all (x ∷ xs) zero le = absurd (omega arith)
drop_all (x ∷ xs) (suc k) le = drop_all xs k (omega arith)

-- tokens that are absent up to the end are so past it
pub absent_all : (ts : List CaseToken) → ((y : ℕ) → y < length ts → tok_at ts y ≡ Absent) → (y : ℕ) →
    tok_at ts y ≡ Absent
absent_all ts h y = go (nat_lt y (length ts)) refl
  where
    go : (b : Bool) → nat_lt y (length ts) ≡ b → tok_at ts y ≡ Absent
    go true i = h y (grind arith)
    go false i = far ts y (grind arith)

-- what is kept for each rank, of the order's own ranks once it is gone through
pub ended : (ns : List Node) (order : List ℕ) (at : ℕ) (c : ℕ → Bool) (sp ts : List CaseToken) →
    (r : IsOrdered ns order) → length order ≤ at → ((rank : ℕ → ℕ) → Ranked ns rank →
    Order ns rank order → Passing ns rank (drop at order) c sp ts) → Passing ns r.0 [] c sp ts
ended ns order at c sp ts r le h =
    subst (λ l. Passing ns r.0 l c sp ts) (drop_all order at le) (h r.0 r.1 r.2)
