use Rattle.c_names.proofs.Turned.{turn_fails, turn_left}
use Rattle.c_names.proofs.unit.take.Goals as goal

pub returns-clause-fails : goal.returns-clause-fails
returns-clause-fails c =
    turn_fails c.args.turns c.args.names.now c.args.token.now c.args.behind.now c.args.out.now c.take.result
    c.requires c.take.ensures.err

pub returns-clause-left : goal.returns-clause-left
returns-clause-left c =
    turn_left c.args.names.now c.take.new.self c.args.token.now c.args.behind.now c.args.out.now c.take.new.out
    c.take.result c.take.ensures.did
