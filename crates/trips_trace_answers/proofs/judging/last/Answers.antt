use Rattle.trips_trace_answers.proofs.judging.last.Goals as goal

pub returns-in-Ok : goal.returns-in-Ok
returns-in-Ok c = (c.finish.ensures.ok c.in-Ok.blocks).0 c.in-Ok.is

pub returns-in-Err : goal.returns-in-Err
returns-in-Err c = (c.finish.ensures.err c.in-Err.fault).0 c.in-Err.is
