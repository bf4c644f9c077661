use Rattle.c_meaning_spec.proofs.Tellings.{telling-is}
use Rattle.c_meaning_spec.proofs.laws.task_tells_by_its_parts.Goals as goal

pub returns : goal.returns
returns c = telling-is
