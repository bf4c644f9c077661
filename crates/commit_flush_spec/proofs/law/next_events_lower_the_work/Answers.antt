use Rattle.commit_flush_spec.proofs.law.next_events_lower_the_work.Goals as goal
use Rattle.commit_flush_spec.proofs.Lowered.{work_falls}

pub returns : goal.returns
returns c = work_falls
