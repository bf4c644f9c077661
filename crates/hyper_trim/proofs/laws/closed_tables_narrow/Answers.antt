use Rattle.hyper_trim.proofs.Shapes.{closed_narrows}
use Rattle.hyper_trim.proofs.laws.closed_tables_narrow.Goals as goal

pub returns : goal.returns
returns c = closed_narrows
