use Rattle.grid_parts.proofs.FlagFacts.{zero_at}
use Rattle.grid_tallies.specs.Statistics.{place}
use Rattle.grid_tallies.proofs.tallies.Tallies.none.Goals as goal

pub returns : goal.returns
returns c = λ s room. zero_at 28 (place s)
