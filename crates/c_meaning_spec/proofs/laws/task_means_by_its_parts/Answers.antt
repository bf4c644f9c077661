use Rattle.c_meaning_spec.proofs.Stocks.{means-by-parts}
use Rattle.c_meaning_spec.proofs.laws.task_means_by_its_parts.Goals as goal

pub returns : goal.returns
returns c = means-by-parts
