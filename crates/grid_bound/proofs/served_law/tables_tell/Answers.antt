use Rattle.grid_bound.proofs.FrameTable.{table_tells}
use Rattle.grid_bound.proofs.served_law.tables_tell.Goals as goal

pub returns : goal.returns
returns c = λ blocks o f good code. table_tells blocks good o f code
