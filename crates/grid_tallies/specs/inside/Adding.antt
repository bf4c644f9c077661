-- What some notes and a call add to tallies.
use Rattle.std.specs.Prelude.{◌≡◌, ◌<◌, ℕ, ◌+◌, ◌*◌, ◌^◌, ◌==◌, Bool, true, false, cond, List, ◌∷◌}
use Rattle.commit_flush_spec.specs.Frames.{Frame}
use Rattle.grid_events.specs.Notes.{Note, Loads, Stores}
use Rattle.grid_events.specs.Counts.{tally, flushed}
use Rattle.grid_events.specs.StationNotes.{both_notes}
use Rattle.grid_events.specs.Turns.{of_frame}
use Rattle.grid_tallies.specs.declared.statistic.Statistic.{Statistic}
use Rattle.grid_tallies.specs.declared.statistic.Statistic.TheVariants as statistic
use Rattle.grid_tallies.specs.declared.tallies.Tallies.{Tallies}
use Rattle.grid_tallies.specs.Statistics.{Heard, number_of, place, weigh}

-- so many more of one statistic, while it has room in 64 bits, and of no other
abbrev pub Adds : Statistic → ℕ → Tallies → Tallies → Type 0
Adds s by a b = (t : Statistic) → number_of t a + cond (place t == place s) by 0 < 2 ^ 64
    → number_of t b ≡ number_of t a + cond (place t == place s) by 0

-- some notes count nothing
abbrev pub Nothing : List Note → Type 0
Nothing es = (s : Statistic) → tally (weigh s) es ≡ 0

-- some notes count so many of one statistic, and nothing of any other
abbrev pub Only : Statistic → ℕ → List Note → Type 0
Only s by es = (t : Statistic) → tally (weigh t) es ≡ cond (place t == place s) by 0

-- some notes count their flushes as one statistic, and nothing else
abbrev pub OnlyFlushes : Statistic → List Note → Type 0
OnlyFlushes s es = Only s (tally flushed es) es

-- what is heard of the answer to a request: a load with notes that count nothing, or a store with as many flushed
-- frames
abbrev pub AnswersHeard : Bool → ℕ → Tallies → Tallies → Type 0
AnswersHeard false flushes a b = (tile n m : ℕ) (es : List Note) → Nothing es
    → Heard a (Loads tile n m ∷ es) b
AnswersHeard true flushes a b = (tile n m : ℕ) (null : Bool) (es : List Note)
    → OnlyFlushes statistic.Violations es → tally flushed es ≡ flushes → Heard a (Stores tile n m null ∷ es) b

-- what is heard of the tokens that enter behind the answer: those of a load, and of a store none
abbrev pub TokensHeard : Bool → ℕ → ℕ → List Frame → Tallies → Tallies → Type 0
TokensHeard false n slot fs a b = (from : ℕ) → Heard a (of_frame n (λ f. both_notes from f (2 * slot)) fs) b
TokensHeard true n slot fs a b = b ≡ a
