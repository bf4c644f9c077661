use Rattle.std.proofs.Common.{arith, ap, ◌∙◌, ◌||◌}
use Rattle.block_check.proofs.Building.{has_load_more}
use Rattle.block_check.proofs.numbers.has_load.Goals as goal

pub loop-k-preserved : goal.loop-k-preserved
loop-k-preserved c = has_load_more c.args.insts.now c.loop-k.k c.args.number c.loop-k.found _
    (omega arith) c.loop-k.invariant (c.either-found.ensures ∙ ap (λ v. c.loop-k.found
    || v) c.loads.ensures)
