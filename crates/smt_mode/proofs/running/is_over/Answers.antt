use Rattle.smt_mode.proofs.Endings.{over_told}
use Rattle.smt_mode.specs.Fours.{fours_of}
use Rattle.smt_mode.proofs.running.is_over.Goals as goal

pub returns : goal.returns
returns g c = over_told c.is_empty.result (fours_of c.args.machine.now) c.going.result.items c.is_empty.ensures
    c.going.ensures.value
