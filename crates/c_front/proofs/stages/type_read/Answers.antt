use Rattle.c_front.proofs.EveryText.{has_types, has_no_types}
use Rattle.c_front.proofs.stages.type_read.Goals as goal

pub returns-in-Ok-clause-ok : goal.returns-in-Ok-clause-ok
returns-in-Ok-clause-ok c = has_types c.args.tree c.in-Ok.program c.in-Ok.ensures.ok.0 c.in-Ok.ensures.ok.1

pub returns-in-Err-clause-err : goal.returns-in-Err-clause-err
returns-in-Err-clause-err c = has_no_types c.args.tree c.in-Err.refusal c.in-Err.ensures.err
