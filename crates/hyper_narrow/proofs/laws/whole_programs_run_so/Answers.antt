use Rattle.hyper_narrow.proofs.WholeRuns.{whole_runs}
use Rattle.hyper_narrow.proofs.laws.whole_programs_run_so.Goals as goal

pub returns : goal.returns
returns c = whole_runs
