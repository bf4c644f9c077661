-- What counters hear of notes, one after another.
use Rattle.std.proofs.Common.{◌≡◌, ℕ, ◌+◌, List, [], ◌∷◌, ◌++◌, arith}
use Rattle.trips_isa.specs.declared.block.Block.{Block}
use Rattle.grid_events.specs.Notes.{Note}
use Rattle.grid_tallies.specs.declared.counters.Counters.{Counters}
use Rattle.grid_tallies.specs.declared.statistic.Statistic.{Statistic}
use Rattle.grid_events.specs.Counts.{tally}
use Rattle.grid_events.specs.Guesses.{right}
use Rattle.grid_tallies.specs.Counters.{AreCountersOf, Hears}
use Rattle.grid_tallies.specs.Statistics.{number_of, weigh}
use Rattle.grid_tallies.specs.inside.Adding.{Nothing}
use Rattle.grid_tallies.proofs.Guessing.{guessed_both, guessed_none, heeded}
use Rattle.grid_tallies.proofs.Tallying.{heard_both, heard_none}

-- notes one after another
pub hears_both : (a b c : Counters) (es fs : List Note) → Hears a es b → Hears b fs c → Hears a (es ++ fs) c
hears_both a b c es fs one two = record {
  tallies = heard_both a.tallies b.tallies c.tallies es fs one.tallies two.tallies;
  guesses = guessed_both a.guesses b.guesses c.guesses es fs one.guesses two.guesses;
}

-- notes that count nothing and tell of no guess
pub hears_none : (a : Counters) (es : List Note) → Nothing es → heeded es ≡ [] → Hears a es a
hears_none a es nothing quiet = record {
  tallies = heard_none a.tallies es nothing;
  guesses = guessed_none a.guesses es quiet;
}

-- counters of nothing that have heard some notes are of these
pub counters_of : (a b : Counters) (es : List Note) → AreCountersOf [] a → Hears a es b → AreCountersOf es b
counters_of a b es none heard = record {
  tallies = λ k room.
      let zero : number_of k a.tallies ≡ 0 = none.tallies k (omega arith) in
      let more : number_of k b.tallies ≡ number_of k a.tallies + tally (weigh k) es =
      heard.tallies k (omega (arith, zero, room)) in
      omega (arith, zero, more);
  guesses = record {
    stand = heard.guesses.stand [] none.guesses.stand;
    number = λ room.
        let zero : a.guesses.right ≡ 0 = none.guesses.number (omega arith) in
        let more : b.guesses.right ≡ a.guesses.right + right es =
        heard.guesses.number [] none.guesses.stand (omega (arith, zero, room)) in
        omega (arith, zero, more);
  };
}
