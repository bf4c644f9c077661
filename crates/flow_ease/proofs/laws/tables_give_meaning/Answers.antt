use Rattle.flow_ease.proofs.Standing.{means_by_tables}
use Rattle.flow_ease.proofs.laws.tables_give_meaning.Goals as goal

pub returns : goal.returns
returns c = means_by_tables
