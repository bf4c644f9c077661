-- How many frames are in flight as the cycles of a run begin.
use Rattle.std.specs.Prelude.{◌≡◌, ◌<◌, ℕ, zero, suc, ◌+◌, ◌-◌, ◌^◌, ◌==◌, List, [], ◌∷◌, slice_index_or}
use Rattle.grid_events.specs.Notes.{Note}
use Rattle.grid_events.specs.Counts.{tally, fetched, committed, flushed, one_if}
use Rattle.grid_events.specs.Cycles.{told}
use Rattle.grid_tallies.specs.declared.flights.Flights.{Flights}

-- how many frames are in flight behind some notes, of so many before: those that were filled, but for those that were
-- committed or flushed
abbrev pub in_flight : ℕ → List Note → ℕ
in_flight before es = before + tally fetched es - (tally committed es + tally flushed es)

-- how many of some cycles have begun with n frames in flight, the notes of the last being given first; before them
-- there were so many
abbrev pub begun_with : ℕ → ℕ → List (List Note) → ℕ
begun_with n before [] = 0
begun_with n before (es ∷ ess) = one_if (n == in_flight before (told ess)) + begun_with n before ess

-- how many of them have begun with fewer than n
abbrev pub begun_below : ℕ → ℕ → List (List Note) → ℕ
begun_below zero before ess = 0
begun_below (suc n) before ess = begun_below n before ess + begun_with n before ess

-- each of some cycles has begun with at most eight frames in flight
abbrev pub BeganWithFew : ℕ → List (List Note) → Type 0
BeganWithFew before [] = Unit {0}
BeganWithFew before (es ∷ ess) = (in_flight before (told ess) < 9) × BeganWithFew before ess

-- the number of cycles that have begun with n frames in flight
abbrev pub number_with : ℕ → Flights → ℕ
number_with n f = slice_index_or f.cycles n 0

-- the second numbers are the first after these cycles more, before which there were so many frames in flight; each
-- while it has room in 64 bits
abbrev pub Flown : Flights → ℕ → List (List Note) → Flights → Type 0
Flown a before ess b = (n : ℕ) → n < 9 → number_with n a + begun_with n before ess < 2 ^ 64
    → number_with n b ≡ number_with n a + begun_with n before ess

-- the numbers are those of these cycles, before which no frame was in flight; each while it has room in 64 bits
abbrev pub AreFlightsOf : List (List Note) → Flights → Type 0
AreFlightsOf ess f = (n : ℕ) → n < 9 → begun_with n 0 ess < 2 ^ 64 → number_with n f ≡ begun_with n 0 ess
