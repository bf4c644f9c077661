-- All that is counted of a run.
use Rattle.std.specs.Prelude.{List}
use Rattle.grid_events.specs.Notes.{Note}
use Rattle.grid_tallies.specs.declared.counters.Counters.{Counters}
use Rattle.grid_tallies.specs.Predictions.{AreGuesses, Guessed}
use Rattle.grid_tallies.specs.Statistics.{AreOf, Heard}

-- the second counters are the first after these notes more
pub record Hears (a : Counters) (es : List Note) (b : Counters) : Type 0 where
  -- the numbers of the statistics
  pub tallies : Heard a.tallies es b.tallies
  -- the right predictions
  pub guesses : Guessed a.guesses es b.guesses

-- some counters are those of these notes
pub record AreCountersOf (es : List Note) (c : Counters) : Type 0 where
  -- the numbers of the statistics
  pub tallies : AreOf es c.tallies
  -- the right predictions
  pub guesses : AreGuesses es c.guesses
