use Rattle.grid_parts.proofs.FlagFacts.{zero_at}
use Rattle.grid_tallies.proofs.flights.Flights.none.Goals as goal

pub returns : goal.returns
returns c = λ n less room. zero_at 9 n
