use Rattle.machine_save.proofs.Answered.{bad_told}
use Rattle.machine_save.proofs.opening.image.Goals as goal

pub returns-in-Ok-clause-err : goal.returns-in-Ok-clause-err
returns-in-Ok-clause-err c = bad_told c.args.bytes.now c.in-Ok.image c.checked.result c.in-Ok.ensures.ok
    c.checked.ensures.err
