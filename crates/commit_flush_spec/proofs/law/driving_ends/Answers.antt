use Rattle.commit_flush_spec.proofs.law.driving_ends.Goals as goal
use Rattle.commit_flush_spec.proofs.DrivingEnds.{driven_ends, driven_steps, driven_rests, drives_play}
use Rattle.commit_flush_spec.proofs.Lone.{fewer_events}
use Rattle.commit_flush_spec.proofs.Pace.{few_events}

pub returns-clause-ends : goal.returns-clause-ends
returns-clause-ends c = driven_ends

pub returns-clause-plays : goal.returns-clause-plays
returns-clause-plays c = drives_play

pub returns-clause-pace : goal.returns-clause-pace
returns-clause-pace c = few_events

pub returns-clause-steps : goal.returns-clause-steps
returns-clause-steps c = driven_steps

pub returns-clause-rests : goal.returns-clause-rests
returns-clause-rests c = driven_rests

pub returns-clause-alone : goal.returns-clause-alone
returns-clause-alone c = fewer_events
