use Rattle.grid_parts.proofs.FlagFacts.{zero_at}
use Rattle.grid_parts.proofs.flushing.idle_units.Goals as goal

pub returns : goal.returns
returns c = zero_at 16
