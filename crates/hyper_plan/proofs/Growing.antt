-- Answers that grow.
use Rattle.std.proofs.Common.{◌≡◌, ℕ, zero, suc, Bool, true, List, [], ◌∷◌, ◌++◌, length, refl, ap}
use Rattle.std.specs.Prelude.{slice_set, ◌==◌}
use Rattle.std.proofs.lemmas.Bool.{and_parts, and_from}
use Rattle.hyper_plan.specs.inside.Answers.{only_cuts}

-- a cut behind others
pub only_pushed : (cs : List Bool) (c : Bool) → c ≡ true → only_cuts cs ≡ true → only_cuts (cs ++ (c ∷ [])) ≡ true
only_pushed [] c e h = and_from c true e refl
only_pushed (d ∷ cs) c e h =
    let p = and_parts d (only_cuts cs) h in
    and_from d (only_cuts (cs ++ (c ∷ []))) p.0 (only_pushed cs c e p.1)

-- the answer where there is no room
pub only_answered : (cs : List Bool) (room : ℕ) → room ≡ 0 → only_cuts cs ≡ true
    → only_cuts (cs ++ ((room == 0) ∷ [])) ≡ true
only_answered cs room z h = only_pushed cs (room == 0) (ap (λ (r : ℕ). r == 0) z) h

-- an answer becomes a cut
pub only_set : (cs : List Bool) (k : ℕ) → only_cuts cs ≡ true → only_cuts (slice_set cs k true) ≡ true
only_set [] k h = refl
only_set (d ∷ cs) zero h = and_from true (only_cuts cs) refl (and_parts d (only_cuts cs) h).1
only_set (d ∷ cs) (suc k) h =
    let p = and_parts d (only_cuts cs) h in
    and_from d (only_cuts (slice_set cs k true)) p.0 (only_set cs k p.1)

-- answers of which one is set to yes are as many as before
pub size_set : (cs : List Bool) (k : ℕ) → length (slice_set cs k true) ≡ length cs
size_set [] k = refl
size_set (c ∷ cs) zero = refl
size_set (c ∷ cs) (suc k) = ap suc (size_set cs k)
