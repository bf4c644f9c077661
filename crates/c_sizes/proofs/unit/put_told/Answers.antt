use Rattle.c_tree.specs.Limits.{most_tokens}
use Rattle.c_sizes.proofs.SizedTurns.{first_fails}
use Rattle.c_sizes.proofs.unit.put_told.Goals as goal

pub returns-in-Err-clause-fails : goal.returns-in-Err-clause-fails
returns-in-Err-clause-fails c =
    first_fails most_tokens c.args.walk.now c.args.token.now c.args.behind.now c.args.out.now c.args.size.now
    c.args.taken c.in-Err.fault c.requires.told c.in-Err.ensures
