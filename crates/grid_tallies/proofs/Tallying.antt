-- How numbers and notes are added up.
use Rattle.std.proofs.Common.{◌≡◌, ◌<◌, ℕ, ◌+◌, ◌^◌, ◌==◌, Bool, true, false, cond, List, [], ◌∷◌, ◌++◌}
use Rattle.std.proofs.Common.{Some, None, refl, sym, ap, ap₂, ◌∙◌, subst, arith}
use Rattle.grid_events.specs.Notes.{Note}
use Rattle.grid_events.specs.Counts.{tally}
use Rattle.grid_tallies.specs.declared.statistic.Statistic.{Statistic}
use Rattle.grid_tallies.specs.declared.tallies.Tallies.{Tallies}
use Rattle.grid_tallies.specs.Statistics.{Heard, number_of, place, statistic_of, weigh}
use Rattle.grid_tallies.specs.inside.Adding.{Adds, Only, OnlyFlushes}

-- what is counted of two lists of notes
pub joined : (one : Note → ℕ) (es fs : List Note) → tally one (es ++ fs) ≡ tally one es + tally one fs
joined one [] fs = omega arith
joined one (x ∷ es) fs = let e = joined one es fs in omega (arith, e)

-- nothing is heard of notes that count nothing
pub heard_none : (a : Tallies) (es : List Note) → ((s : Statistic) → tally (weigh s) es ≡ 0) → Heard a es a
heard_none a es none = λ s room. let e = none s in omega (arith, e)

-- notes one after another
pub heard_both : (a b c : Tallies) (es fs : List Note) → Heard a es b → Heard b fs c → Heard a (es ++ fs) c
heard_both a b c es fs first last = λ s room.
    let both = joined (weigh s) es fs in
    let one : number_of s b ≡ number_of s a + tally (weigh s) es = first s (omega (arith, room, both)) in
    let two : number_of s c ≡ number_of s b + tally (weigh s) fs = last s (omega (arith, room, both, one)) in
    omega (arith, both, one, two)

-- what a call adds is what some notes count
pub heard_adds : (k : Statistic) (by : ℕ) (a b : Tallies) (es : List Note) → Adds k by a b → Only k by es
    → Heard a es b
heard_adds k by a b es adds only = λ s room.
    let e = only s in
    let d : number_of s b ≡ number_of s a + cond (place s == place k) by 0 = adds s (omega (arith, room, e)) in
    omega (arith, d, e)

-- two lists that count as one statistic
pub only_both : (k : Statistic) (m n : ℕ) (es fs : List Note) → Only k m es → Only k n fs → Only k (m + n) (es ++ fs)
only_both k m n es fs a b = λ s.
    joined (weigh s) es fs ∙ ap₂ (λ (x y : ℕ). x + y) (a s) (b s) ∙ split (place s == place k)
  where
    split : (c : Bool) → cond c m 0 + cond c n 0 ≡ cond c (m + n) 0
    split true = refl
    split false = refl
