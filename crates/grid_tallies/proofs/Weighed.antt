-- What the notes of the parts of a cycle count for.
use Rattle.std.proofs.Common.{◌≡◌, ◌<◌, ℕ, zero, suc, ◌+◌, ◌==◌, Bool, true, false, cond, List, [], ◌∷◌, ◌++◌}
use Rattle.std.proofs.Common.{Option, Some, None, refl, sym, ap, ◌∙◌, arith}
use Rattle.std.proofs.lemmas.Bool.{ne_eqb}
use Rattle.commit_flush_spec.specs.Frames.{Frame}
use Rattle.grid_cycle_spec.specs.Grid.{Fetching}
use Rattle.grid_cycle_spec.specs.Choosing.{each}
use Rattle.grid_events.specs.Notes.{Note, Why}
use Rattle.grid_events.specs.Notes as note
use Rattle.grid_events.specs.Counts.{tally, flushed}
use Rattle.grid_events.specs.Turns.{of_each, of_frame, flushes, gives_up}
use Rattle.grid_tallies.specs.declared.statistic.Statistic.{Statistic}
use Rattle.grid_tallies.specs.declared.tallies.Tallies.{Tallies}
use Rattle.grid_tallies.specs.Statistics.{cause_of, is_one, place, statistic_of, weigh}
use Rattle.grid_tallies.specs.inside.Adding.{Adds, Nothing, Only, OnlyFlushes}
use Rattle.grid_tallies.proofs.Tallying.{joined, only_both}

-- notes that count nothing -----------------------------------------------------------------------

-- a note that counts for no statistic, before others that count nothing
pub nothing_cons : (x : Note) (es : List Note) → statistic_of x ≡ None → Nothing es → Nothing (x ∷ es)
nothing_cons x es is rest = λ s.
    let one : weigh s x ≡ 0 = ap (λ o. cond (is_one s o) 1 0) is in
    let e = rest s in
    omega (arith, one, e)

-- two lists that count nothing
pub nothing_both : (es fs : List Note) → Nothing es → Nothing fs → Nothing (es ++ fs)
nothing_both es fs a b = λ s.
    let both = joined (weigh s) es fs in
    let e = a s in
    let f = b s in
    omega (arith, both, e, f)

-- one of two lists that count nothing
pub nothing_either : (b : Bool) (es fs : List Note) → Nothing es → Nothing fs → Nothing (cond b es fs)
nothing_either true es fs x y = x
nothing_either false es fs x y = y

-- the notes of a frame where those of each count nothing
pub nothing_frame : (n : ℕ) (notes : Frame → List Note) → ((f : Frame) → Nothing (notes f)) → (fs : List Frame)
    → Nothing (of_frame n notes fs)
nothing_frame n notes none [] = λ s. refl
nothing_frame n notes none (f ∷ fs) =
    nothing_either (f.number == n) (notes f) (of_frame n notes fs) (none f) (nothing_frame n notes none fs)

-- the notes of stations where those of each count nothing
pub nothing_each : {A : Type 0} (turn : ℕ → A → A) (notes : ℕ → A → List Note)
    → ((n : ℕ) (g : A) → Nothing (notes n g)) → (n : ℕ) (g : A) → Nothing (of_each turn notes n g)
nothing_each turn notes none zero g = λ s. refl
nothing_each turn notes none (suc n) g = nothing_both (of_each turn notes n g) (notes n (each turn n g))
    (nothing_each turn notes none n g) (none n (each turn n g))

-- a fetch is given up, or none is
pub nothing_given : (a b : Option Fetching) → Nothing (gives_up a b)
nothing_given None b = λ s. refl
nothing_given (Some f) None = λ s. refl
nothing_given (Some f) (Some k) = λ s. refl

-- one note ---------------------------------------------------------------------------------------

-- a note that counts for a statistic
pub only_one : (x : Note) (k : Statistic) → statistic_of x ≡ Some k → Only k 1 (x ∷ [])
only_one x k is = λ s.
    let one : weigh s x ≡ cond (place s == place k) 1 0 = ap (λ o. cond (is_one s o) 1 0) is in
    omega (arith, one)

-- a note that counts for a statistic, before others that count nothing
pub only_first : (x : Note) (k : Statistic) (es : List Note) → statistic_of x ≡ Some k → Nothing es
    → Only k 1 (x ∷ es)
only_first x k es is rest = λ s.
    let one : weigh s x ≡ cond (place s == place k) 1 0 = ap (λ o. cond (is_one s o) 1 0) is in
    let e = rest s in
    omega (arith, one, e)

-- a cycle of a unit counts for no statistic but that of its tile
pub works_none : (s : Statistic) (tile : ℕ) → place s < 12 → weigh s (note.Works tile) ≡ 0
works_none s tile l = ap (λ c. cond c 1 0) (ne_eqb (place s) (12 + tile) (λ z. omega (arith, l, z)))

-- flushes ----------------------------------------------------------------------------------------

none_of : (c : Bool) (n : ℕ) → n ≡ 0 → cond c n 0 ≡ 0
none_of true n e = e
none_of false n e = refl

-- no more of a statistic changes nothing
pub adds_none : (k : Statistic) (by : ℕ) (a : Tallies) → by ≡ 0 → Adds k by a a
adds_none k by a e = λ s room.
    let none = none_of (place s == place k) by e in
    omega (arith, none)

-- notes that count nothing and are no flushes
pub flushes_none : (k : Statistic) (es : List Note) → Nothing es → tally flushed es ≡ 0 → OnlyFlushes k es
flushes_none k es none off = λ s. none s ∙ sym (none_of (place s == place k) (tally flushed es) off)

-- two lists that count their flushes as one statistic
pub flushes_both : (k : Statistic) (es fs : List Note) → OnlyFlushes k es → OnlyFlushes k fs
    → OnlyFlushes k (es ++ fs)
flushes_both k es fs a b = λ s. only_both k (tally flushed es) (tally flushed fs) es fs a b s
    ∙ ap (λ m. cond (place s == place k) m 0) (sym (joined flushed es fs))

-- flushed frames count for their cause
pub flushes_only : (why : Why) (fs : List Frame) → OnlyFlushes (cause_of why) (flushes why fs)
flushes_only why [] = λ s. sym (none_of (place s == place (cause_of why)) 0 refl)
flushes_only why (f ∷ fs) = λ s. split (place s == place (cause_of why)) (flushes_only why fs s)
  where
    split : (c : Bool) {m : ℕ} → m ≡ cond c (tally flushed (flushes why fs)) 0
        → cond c 1 0 + m ≡ cond c (1 + tally flushed (flushes why fs)) 0
    split true e = omega (arith, e)
    split false e = omega (arith, e)

-- a fetch that is given up is no flush
pub none_given : (a b : Option Fetching) → tally flushed (gives_up a b) ≡ 0
none_given None b = refl
none_given (Some f) None = refl
none_given (Some f) (Some g) = refl

-- so it counts nothing
pub flushes_given : (k : Statistic) (a b : Option Fetching) → OnlyFlushes k (gives_up a b)
flushes_given k a b = flushes_none k (gives_up a b) (nothing_given a b) (none_given a b)
