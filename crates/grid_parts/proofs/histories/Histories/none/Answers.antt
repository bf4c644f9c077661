use Rattle.grid_parts.proofs.FlagFacts.{zero_at}
use Rattle.grid_parts.proofs.RowFacts.{no_histories}
use Rattle.grid_parts.proofs.histories.Histories.none.Goals as goal

pub invariant_of-result : goal.invariant_of-result
invariant_of-result c = no_histories

pub returns : goal.returns
returns c = zero_at 8
