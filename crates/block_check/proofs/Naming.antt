-- Places that nodes name, and the marks of places.
use Rattle.std.proofs.Common.{◌≡◌, ℕ, zero, suc, ◌+◌, ◌<◌, ◌≤◌, Bool, true, false, ◌||◌, ◌&&◌, List}
use Rattle.std.proofs.Common.{[], ◌∷◌, take, Some, slice_get, refl, sym, ap, ◌∙◌, arith, nat_lt, ◌==◌}
use Rattle.block_cases.specs.declared.token.CaseToken.{CaseToken}
use Rattle.block_cases.specs.declared.token.CaseToken.TheVariants.{Absent, Null, Bit}
use Rattle.trips_isa.specs.declared.node.Node.{Node}
use Rattle.block_cases.specs.Nodes.{targets, names, hits, one_if}
use Rattle.block_cases.specs.CaseRule.{no}
use Rattle.block_cases.specs.Cases.{bit, token, tokens, weighed}
use Rattle.block_check.specs.inside.Walk.{tally}
use Rattle.block_check.specs.inside.Found.{gets_none, Added}
use Rattle.block_check.specs.inside.Named.{named, Freed}
use Rattle.block_check.proofs.Cycles.{eq_is}
use Rattle.block_check.proofs.Chains.{or_shift, or_end}
use Rattle.block_check.proofs.Sparing.{tokens_spare}

-- marks, one after another

-- what is asked of place p is asked of q where they are one
pub at_place : (p q : ℕ) (f : ℕ → Bool) → ((p == q) && f p) ≡ ((p == q) && f q)
at_place p q f = go (p == q) refl
  where
    go : (b : Bool) → (p == q) ≡ b → (b && f p) ≡ (b && f q)
    go true e = ap f (eq_is p q e)
    go false e = refl

-- a mark where the first or the second is so
pub marked_two : (b u v t : Bool) → ((b || (u && t)) || (v && t)) ≡ (b || ((u || (v || false)) && t))
marked_two true u v t = refl
marked_two false true true true = refl
marked_two false true true false = refl
marked_two false true false true = refl
marked_two false true false false = refl
marked_two false false true t = refl
marked_two false false false t = refl

-- the same of two that are joined
pub marked_both : (b u v t : Bool) → ((b || (u && t)) || (v && t)) ≡ (b || ((u || v) && t))
marked_both true u v t = refl
marked_both false true true true = refl
marked_both false true true false = refl
marked_both false true false true = refl
marked_both false true false false = refl
marked_both false false v t = refl

-- no mark where the first or the second is so
pub unmarked_two : (b u v : Bool) → ((b && no u) && no v) ≡ (b && no (u || (v || false)))
unmarked_two false u v = refl
unmarked_two true true v = refl
unmarked_two true false true = refl
unmarked_two true false false = refl

no_either : (u v : Bool) → (no u && no v) ≡ no (u || v)
no_either true v = refl
no_either false v = refl

-- places that are named

-- the places that the nodes up to x name
pub named_more : (ns : List Node) (x : ℕ) (n : Node) (q : ℕ) → slice_get ns x ≡ Some n →
    named (take (x + 1) ns) q ≡ (named (take x ns) q || names (targets n) q)
named_more ns x n q e = let one : x + 1 ≡ suc x = omega arith in
    ap (λ k. named (take k ns) q) one ∙ go ns x e
  where
    go : (ns : List Node) (x : ℕ) → slice_get ns x ≡ Some n →
        named (take (suc x) ns) q ≡ (named (take x ns) q || names (targets n) q)
    go [] x e = absurd (cc)
    go (m ∷ ms) zero e = let same : m ≡ n = cc in
        or_end (names (targets m) q) ∙ ap (λ (k : Node). names (targets k) q) same
    go (m ∷ ms) (suc x) e = ap (λ b. names (targets m) q || b) (go ms x e)
        ∙ or_shift (names (targets m) q) (named (take x ms) q) (names (targets n) q)

-- the marks of the nodes up to x, after those of the nodes before it
pub marked_more : (ns : List Node) (x : ℕ) (n : Node) (q : ℕ) (b t v w : Bool) →
    slice_get ns x ≡ Some n → v ≡ (b || (named (take x ns) q && t)) →
    w ≡ (v || (names (targets n) q && t)) → w ≡ (b || (named (take (x + 1) ns) q && t))
marked_more ns x n q b t v w e i j =
    j ∙ ap (λ k. k || (names (targets n) q && t)) i
    ∙ marked_both b (named (take x ns) q) (names (targets n) q) t
    ∙ ap (λ k. b || (k && t)) (sym (named_more ns x n q e))

-- the same of what is not marked
pub unmarked_more : (ns : List Node) (x : ℕ) (n : Node) (q : ℕ) (v w : Bool) →
    slice_get ns x ≡ Some n → v ≡ no (named (take x ns) q) → w ≡ (v && no (names (targets n) q)) →
    w ≡ no (named (take (x + 1) ns) q)
unmarked_more ns x n q v w e i j =
    j ∙ ap (λ k. k && no (names (targets n) q)) i
    ∙ no_either (named (take x ns) q) (names (targets n) q)
    ∙ ap no (sym (named_more ns x n q e))

-- places that are not named get no token

or_left : (a b : Bool) → (a || b) ≡ false → a ≡ false
or_left true b e = e
or_left false b e = refl

or_right : (a b : Bool) → (a || b) ≡ false → b ≡ false
or_right true b e = absurd (let no : true ≡ false = e in cc)
or_right false b e = e

unnamed_hits : (ts : List ℕ) (q : ℕ) → names ts q ≡ false → hits ts q ≡ 0
unnamed_hits [] q e = refl
unnamed_hits (t ∷ ts) q e =
    let a : one_if (t == q) ≡ 0 = ap one_if (or_left (t == q) (names ts q) e) in
    let b : hits ts q ≡ 0 = unnamed_hits ts q (or_right (t == q) (names ts q) e) in
    omega (arith, a, b)

weighed_zero : (t : CaseToken) → weighed t 0 ≡ 0
weighed_zero Absent = refl
weighed_zero Null = refl
weighed_zero (Bit v) = refl

unnamed_none : (ns : List Node) (f : ℕ → CaseToken) (q : ℕ) → named ns q ≡ false →
    tokens ns f q ≡ 0
unnamed_none [] f q e = refl
unnamed_none (m ∷ ms) f q e =
    let a : weighed (f 0) (hits (targets m) q) ≡ 0
    = ap (weighed (f 0)) (unnamed_hits (targets m) q (or_left (names (targets m) q) (named ms q) e))
    ∙ weighed_zero (f 0) in
    let b : tokens ms (λ y. f (suc y)) q ≡ 0
    = unnamed_none ms (λ y. f (suc y)) q (or_right (names (targets m) q) (named ms q) e) in
    omega (arith, a, b)

-- so where the nodes from `used` on give nothing, the places are asked that the others name
spared : (ns : List Node) (used : ℕ) (f : ℕ → CaseToken) (q : ℕ) → ((x : ℕ) → used ≤ x →
    f x ≡ Absent) → named (take used ns) q ≡ false → tokens ns f q ≡ 0
spared ns used f q h e = sym (tokens_spare ns used f q h) ∙ unnamed_none (take used ns) f q e

-- the marks of two tokens, once each node is gone over
pub all_twos : (ns : List Node) (used : ℕ) (f : ℕ → CaseToken) (q : ℕ) (b s v : Bool) → ((x : ℕ) →
    used ≤ x → f x ≡ Absent) → v ≡ (b || (named (take used ns) q && s)) →
    s ≡ nat_lt 1 (tokens ns f q) → v ≡ (b || nat_lt 1 (tokens ns f q))
all_twos ns used f q b s v h i e = i ∙ go (named (take used ns) q) refl
  where
    go : (u : Bool) → named (take used ns) q ≡ u →
        (b || (named (take used ns) q && s)) ≡ (b || nat_lt 1 (tokens ns f q))
    go true j = ap (λ u. b || (u && s)) j ∙ ap (λ w. b || w) e
    go false j = ap (λ u. b || (u && s)) j ∙ ap (λ k. b || nat_lt 1 k) (sym (spared ns used f q h j))

-- and of none
pub all_nones : (ns : List Node) (used : ℕ) (f : ℕ → CaseToken) (q : ℕ) (b s v : Bool) → ((x : ℕ) →
    used ≤ x → f x ≡ Absent) → (named (take used ns) q ≡ false → b ≡ true) →
    v ≡ (b || (named (take used ns) q && s)) → s ≡ (tokens ns f q == 0) →
    v ≡ (b || (tokens ns f q == 0))
all_nones ns used f q b s v h m i e = i ∙ go (named (take used ns) q) refl
  where
    go : (u : Bool) → named (take used ns) q ≡ u →
        (b || (named (take used ns) q && s)) ≡ (b || (tokens ns f q == 0))
    go true j = ap (λ u. b || (u && s)) j ∙ ap (λ w. b || w) e
    go false j = ap (λ w. w || (named (take used ns) q && s)) (m j)
        ∙ ap (λ w. w || (tokens ns f q == 0)) (sym (m j))

-- a search that starts with the marks of the places that no node names

-- where exactly the named places have no mark, each place that is not named has one
pub freed : (ns : List Node) (none : List Bool) → ((q : ℕ) → q < 449 → bit none q ≡ no (named ns q)) →
    Freed ns none
freed ns none h q lt e = h q lt ∙ ap no e

-- no mark is lost
pub stays_free : (ns : List Node) (n0 n1 : List Bool) (f : ℕ → Bool) → ((q : ℕ) → q < 449 →
    bit n1 q ≡ (bit n0 q || f q)) → Freed ns n0 → Freed ns n1
stays_free ns n0 n1 f a h q lt e = a q lt ∙ ap (λ b. b || f q) (h q lt e)

or_true : (b : Bool) → (b || true) ≡ true
or_true true = refl
or_true false = refl

-- after the first case the marks are as if it had started without any
pub first_case : (ns : List Node) (used : ℕ) (c : List Bool) (c0 c1 : ℕ) (t0 t1 n0 n1 : List Bool) →
    ((q : ℕ) → q < 449 → bit n0 q ≡ no (named (take used ns) q)) →
    ((x : ℕ) → used ≤ x → token ns c x ≡ Absent) →
    Added ns (c ∷ []) c0 c1 t0 t1 n0 n1 → Added ns (c ∷ []) c0 c1 t0 t1 [] n1
first_case ns used c c0 c1 t0 t1 n0 n1 h absent a = record {
  more = a.more;
  many = a.many;
  few = a.few;
  twos = a.twos;
  nones = λ le q lt. a.nones le q lt ∙ start q lt (named (take used ns) q) refl;
}
  where
    start : (q : ℕ) → q < 449 → (u : Bool) → named (take used ns) q ≡ u →
        (bit n0 q || nat_lt 0 (tally (gets_none ns q) (c ∷ []))) ≡ nat_lt 0 (tally (gets_none ns q)
        (c ∷ []))
    start q lt true i = ap (λ b. b || nat_lt 0 (tally (gets_none ns q) (c ∷ []))) (h q lt ∙ ap no i)
    start q lt false i =
        let here : nat_lt 0 (tally (gets_none ns q) (c ∷ [])) ≡ true
        = ap (λ k. nat_lt 0 (one_if (k == 0) + 0)) (spared ns used (token ns c) q absent i) in
        ap (λ w. bit n0 q || w) here ∙ or_true (bit n0 q) ∙ sym here
