-- Empty slots at the end give nothing.
use Rattle.std.proofs.Common.{◌≡◌, ℕ, zero, suc, ◌+◌, ◌≤◌, Bool, true, false, List, [], ◌∷◌, drop}
use Rattle.std.proofs.Common.{take, Option, Some, None, slice_get, refl, sym, ap, ap₂, ◌∙◌, arith}
use Rattle.block_cases.specs.declared.token.CaseToken.{CaseToken}
use Rattle.block_cases.specs.declared.token.CaseToken.TheVariants.{Absent, Null, Bit}
use Rattle.trips_isa.specs.declared.node.Node.{Node}
use Rattle.block_cases.specs.Nodes.{targets, names, hits}
use Rattle.block_cases.specs.CaseRule.{matches, gives, if_matched, taken, or_else, first, pulled}
use Rattle.block_cases.specs.Cases.{weighed, tokens}
use Rattle.block_check.specs.inside.Pass.{Spare, AbsentFrom, tok_at}

taken_none : (b : Bool) (f : ℕ → CaseToken) → f 0 ≡ Absent → taken b f ≡ Absent
taken_none true f h = h
taken_none false f h = refl

-- where no node gives a token, a place gets none
pub first_none : (ns : List Node) (q : ℕ) (f : ℕ → CaseToken) → ((y : ℕ) → f y ≡ Absent) →
    first ns q f ≡ Absent
first_none [] q f h = refl
first_none (n ∷ ns) q f h = ap₂ or_else (taken_none (names (targets n) q) f (h 0)) (first_none ns q
    (λ y. f (suc y)) (λ y. h (suc y)))

-- at the start of the spreading
pub spread_none : (ns : List Node) (used : ℕ) (ts : List CaseToken) (q : ℕ) → AbsentFrom used ts →
    first (drop used ns) q (λ y. tok_at ts (used + y)) ≡ Absent
spread_none ns used ts q h = first_none (drop used ns) q (λ y. tok_at ts (used + y)) (λ y. h (used
    + y) (omega arith))

-- an empty slot at the end gives no token
pub pulled_spare : (ns : List Node) (used x : ℕ) (v : Bool) (f : ℕ → CaseToken) → Spare ns used →
    used ≤ x → pulled (slice_get ns x) v f ≡ Absent
pulled_spare ns used x v f s le = go (slice_get ns x) refl
  where
    none : (b : Bool) → if_matched b Absent ≡ Absent
    none true = refl
    none false = refl

    go : (o : Option Node) → slice_get ns x ≡ o → pulled o v f ≡ Absent
    go None e = refl
    go (Some n) e =
        ap (λ r. if_matched (matches n.sense (f (256 + n.slot))) (gives r v (f n.slot) (f (128 +
        n.slot)))) (s x n le e).role
        ∙ none (matches n.sense (f (256 + n.slot)))

weighed_none : (t : CaseToken) (k : ℕ) → t ≡ Absent → weighed t k ≡ 0
weighed_none Absent k e = refl
weighed_none Null k e = absurd (cc)
weighed_none (Bit v) k e = absurd (cc)

tokens_none : (ns : List Node) (f : ℕ → CaseToken) (q : ℕ) → ((y : ℕ) → f y ≡ Absent) →
    tokens ns f q ≡ 0
tokens_none [] f q h = refl
tokens_none (n ∷ ns) f q h =
    let a = weighed_none (f 0) (hits (targets n) q) (h 0) in
    let b = tokens_none ns (λ y. f (suc y)) q (λ y. h (suc y)) in
    omega (arith, a, b)

-- what is counted of the nodes in front is counted of all
pub tokens_spare : (ns : List Node) (used : ℕ) (f : ℕ → CaseToken) (q : ℕ) → ((x : ℕ) → used ≤ x →
    f x ≡ Absent) → tokens (take used ns) f q ≡ tokens ns f q
tokens_spare ns zero f q h = sym (tokens_none ns f q (λ y. h y (omega arith)))
tokens_spare [] (suc used) f q h = refl
tokens_spare (n ∷ ns) (suc used) f q h = ap (λ k. weighed (f 0) (hits (targets n) q) + k)
    (tokens_spare ns used (λ y. f (suc y)) q (λ x le. h (suc x) (omega arith)))
