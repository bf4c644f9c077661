-- Lemmas for the functions of a case.
use Rattle.std.proofs.Common.{◌≡◌, ℕ, zero, suc, ◌+◌, ◌<◌, ◌≤◌, Bool, true, false, cond, ◌⊎◌, inl}
use Rattle.std.proofs.Common.{inr, List, [], ◌∷◌, length, drop, Option, Some, None, slice_get}
use Rattle.std.proofs.Common.{slice_set, refl, sym, ap, ap₂, ◌∙◌, subst, arith}
use Rattle.std.proofs.lemmas.Option.{get_or_from_slice_get}
use Rattle.block_cases.specs.declared.token.CaseToken.{CaseToken}
use Rattle.block_cases.specs.declared.token.CaseToken.TheVariants.{Absent}
use Rattle.trips_isa.specs.declared.node.Node.{Node}
use Rattle.trips_isa.specs.Limits.{most_nodes}
use Rattle.block_cases.specs.Nodes.{targets, names, Ranked}
use Rattle.block_cases.specs.CaseRule.{taken, or_else, first, pulled, fires}
use Rattle.block_cases.specs.Cases.{deepest}
use Rattle.block_check.specs.inside.Pass.{AllInPlace, tok_at, once, rounds_from}
use Rattle.block_cases.proofs.Steady.{fire_same, pulled_same, only_one, deepest_is}

pub taken_is : (b : Bool) (f : ℕ → CaseToken) → taken b f ≡ cond b (f 0) Absent
taken_is true f = refl
taken_is false f = refl

pub first_step : (ns : List Node) (x : ℕ) (n : Node) (q : ℕ) (f : ℕ → CaseToken) →
    slice_get ns x ≡ Some n →
    first (drop x ns) q (λ y. f (x + y)) ≡ or_else (cond (names (targets n) q) (f x) Absent) (first
    (drop (suc x) ns) q (λ y. f (suc x + y)))
first_step [] x n q f e = absurd (cc)
first_step (m ∷ ns) zero n q f e =
    let same : m ≡ n = cc in
    let zero_of : (y : ℕ) → f (0 + y) ≡ f y = λ y. ap f (omega arith) in
    let one_of : (y : ℕ) → f (0 + suc y) ≡ f (1 + y) = λ y. ap f (omega arith) in
    ap₂ or_else (taken_is (names (targets m) q) (λ y. f (0 + y))
    ∙ ap₂ (λ (k : Node) t. cond (names (targets k) q) t Absent) same (zero_of 0)) (λ i. first
    ns q (λ y. one_of y i))
first_step (m ∷ ns) (suc x) n q f e =
    let shift : (y : ℕ) → f (suc x + y) ≡ f (suc (x + y)) = λ y. ap f (omega arith) in
    let shift' : (y : ℕ) → f (suc (suc x + y)) ≡ f (suc (suc x) + y) = λ y. ap f (omega arith) in
    (λ i. first (drop x ns) q (λ y. shift y i))
    ∙ first_step ns x n q (λ y. f (suc y)) e
    ∙ (λ i. or_else (cond (names (targets n) q) (f (suc x)) Absent) (first (drop (suc x) ns) q (λ
    y. shift' y i)))

pub first_all : (ns : List Node) (q : ℕ) (f : ℕ → CaseToken) →
    first (drop 0 ns) q (λ y. f (0 + y)) ≡ first ns q f
first_all ns q f = λ i. first (drop 0 ns) q (λ y. zero_of y i)
  where
    zero_of : (y : ℕ) → f (0 + y) ≡ f y
    zero_of y = ap f (omega arith)

-- where the tokens below x are right, and that of x is set rightly, the tokens up to x are right
pub set_more : (ts us : List CaseToken) (x : ℕ) (t : CaseToken) (g : ℕ → CaseToken) →
    x < length ts → us ≡ slice_set ts x t → ((y : ℕ) → y < x → tok_at ts y ≡ g y) → t ≡ g x →
    (y : ℕ) → y < x + 1 → tok_at us y ≡ g y
set_more ts us x t g lt e h i y below = ap (λ l. tok_at l y) e ∙ go ts x lt g h i y below
  where
    go : (ts : List CaseToken) (x : ℕ) → x < length ts → (g : ℕ → CaseToken) → ((y : ℕ) → y < x →
        tok_at ts y ≡ g y) → t ≡ g x → (y : ℕ) → y < x + 1 → tok_at (slice_set ts x t) y ≡ g y
    go [] x lt g h i y below = absurd (omega arith)
    go (v ∷ vs) zero lt g h i zero below = i
    go (v ∷ vs) zero lt g h i (suc y) below = absurd (omega arith)
    go (v ∷ vs) (suc x) lt g h i zero below = h 0 (omega arith)
    go (v ∷ vs) (suc x) lt g h i (suc y) below = go vs x (omega arith) (λ z. g (suc z)) (λ z l. h
        (suc z) (omega arith)) i y (omega arith)

-- to set a token to what it is changes none
pub set_other : (ts : List CaseToken) (x y : ℕ) (t : CaseToken) → (tok_at ts x ≡ t) →
    x < length ts → tok_at (slice_set ts x t) y ≡ tok_at ts y
set_other [] x y t e lt = refl
set_other (v ∷ vs) zero zero t e lt = sym e
set_other (v ∷ vs) zero (suc y) t e lt = refl
set_other (v ∷ vs) (suc x) zero t e lt = refl
set_other (v ∷ vs) (suc x) (suc y) t e lt = set_other vs x y t e (omega arith)

-- to set token x changes none behind it
pub set_away : (ts : List CaseToken) (x y : ℕ) (t : CaseToken) → x < y →
    tok_at (slice_set ts x t) y ≡ tok_at ts y
set_away [] x y t lt = refl
set_away (v ∷ vs) zero zero t lt = absurd (omega arith)
set_away (v ∷ vs) zero (suc y) t lt = refl
set_away (v ∷ vs) (suc x) zero t lt = absurd (omega arith)
set_away (v ∷ vs) (suc x) (suc y) t lt = set_away vs x y t (omega arith)

-- past the end of a list of tokens none is present
pub far : (ts : List CaseToken) (x : ℕ) → length ts ≤ x → tok_at ts x ≡ Absent
far [] x h = refl
far (t ∷ ts) zero h = absurd (omega arith)
far (t ∷ ts) (suc x) h = far ts x (omega arith)

-- past the end of the nodes there is none
pub far_node : (ns : List Node) (x : ℕ) → length ns ≤ x → slice_get ns x ≡ None
far_node [] x h = refl
far_node (n ∷ ns) zero h = absurd (omega arith)
far_node (n ∷ ns) (suc x) h = far_node ns x (omega arith)

-- a table of the places' tokens serves for pulling
pub pulled_at : (ns : List Node) (x : ℕ) (v : Bool) (f g : ℕ → CaseToken) → ((n : Node) →
    slice_get ns x ≡ Some n → n.slot < 512) → ((q : ℕ) → q < 768 → f q ≡ g q) →
    pulled (slice_get ns x) v f ≡ pulled (slice_get ns x) v g
pulled_at ns x v f g fit h = go (slice_get ns x) refl
  where
    go : (o : Option Node) → slice_get ns x ≡ o → pulled o v f ≡ pulled o v g
    go None e = refl
    go (Some n) e =
        let lt : n.slot < 512 = fit n e in
        fire_same n v _ _ _ _ _ _ (h n.slot (omega arith)) (h (128 + n.slot) (omega arith)) (h (256
        + n.slot) (omega arith))

-- rounds from any guess
rounds_are : (ns : List Node) (rank : ℕ → ℕ) → Ranked ns rank → (c : ℕ → Bool) (h : ℕ →
    CaseToken) (k m x : ℕ) → rank x < k → k ≤ m → rounds_from ns c h k x ≡ fires ns c m x
rounds_are ns rank o c h zero m x lt le = absurd (omega arith)
rounds_are ns rank o c h (suc k) zero x lt le = absurd (omega arith)
rounds_are ns rank o c h (suc k) (suc m) x lt le = pulled_same ns x (c x) (rounds_from ns c h k)
    (fires ns c m) (λ y e. let up : rank y < rank x = o.rises y x e in
    rounds_are ns rank o c h k m y (omega arith) (omega arith))

-- rounds that have come to rest, or are as many as nodes may be, give each node's token
pub settled_from : (ns : List Node) (r : (rank : ℕ → ℕ) × Ranked ns rank) (c : ℕ → Bool) (h g : ℕ →
    CaseToken) (k : ℕ) → ((x : ℕ) → g x ≡ rounds_from ns c h k x) → k ≤ most_nodes → ((x : ℕ) →
    g x ≡ once ns c g x) ⊎ (most_nodes ≤ k) → (x : ℕ) → g x ≡ fires ns c deepest x
settled_from ns r c h g k e le (inl s) x = only_one ns r.0 r.1 c g s x
settled_from ns r c h g k e le (inr all) x = e x ∙ rounds_are ns r.0 r.1 c h k deepest x (let b :
    r.0 x < most_nodes = r.1.below x in omega arith) (let d : deepest ≡ most_nodes = deepest_is in omega arith)

-- a place gets the first token of those from node k on: the one of node k where it names the place, else what
-- it gets behind it
pub spread_more : (ns : List Node) (x k : ℕ) (n : Node) (q : ℕ) (f : ℕ →
    CaseToken) (t u v : CaseToken) → slice_get ns k ≡ Some n → t ≡ f k → suc k ≡ x →
    u ≡ first (drop x ns) q (λ y. f (x + y)) → v ≡ or_else (cond (names (targets n) q) t Absent) u →
    v ≡ first (drop k ns) q (λ y. f (k + y))
spread_more ns x k n q f t u v e d s a b =
    b
    ∙ ap (λ w. or_else (cond (names (targets n) q) w Absent) u) d
    ∙ ap (or_else (cond (names (targets n) q) (f k) Absent)) (a
    ∙ ap (λ w. first (drop w ns) q (λ y. f (w + y))) (sym s))
    ∙ sym (first_step ns k n q f e)

-- what a node gives is what the node of its number gives
pub pulled_here : (ns : List Node) (x : ℕ) (n : Node) (v : Bool) (f : ℕ →
    CaseToken) (t : CaseToken) → slice_get ns x ≡ Some n → t ≡ pulled (Some n) v f →
    t ≡ pulled (slice_get ns x) v f
pulled_here ns x n v f t e i = i ∙ ap (λ o. pulled o v f) (sym e)

some_lt : (ns : List Node) (x : ℕ) (n : Node) → slice_get ns x ≡ Some n → x < length ns
some_lt [] x n e = absurd (cc)
some_lt (m ∷ ms) zero n e = omega arith
some_lt (m ∷ ms) (suc x) n e = let h = some_lt ms x n e in omega (arith, h)

-- the slot of a node is below 512
pub slot_fits : (ns : List Node) (x : ℕ) → AllInPlace ns → (n : Node) → slice_get ns x ≡ Some n →
    n.slot < 512
slot_fits ns x all n e = subst (λ k. k.slot < 512) (get_or_from_slice_get ns x n n e) (all x n
    (some_lt ns x n e)).slot
