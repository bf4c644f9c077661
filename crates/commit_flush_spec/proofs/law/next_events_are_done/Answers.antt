use Rattle.commit_flush_spec.proofs.law.next_events_are_done.Goals as goal
use Rattle.commit_flush_spec.proofs.Next.{next_done, which, exactly_none}

pub returns-clause-done : goal.returns-clause-done
returns-clause-done c = next_done

pub returns-clause-which : goal.returns-clause-which
returns-clause-which c = which

pub returns-clause-none : goal.returns-clause-none
returns-clause-none c = exactly_none
