use Rattle.commit_flush_spec.proofs.law.driving_is_running.Goals as goal
use Rattle.commit_flush_spec.proofs.Runs.{driven_runs}

pub returns : goal.returns
returns c = driven_runs
