use Rattle.std.proofs.Common.{◌≡◌, ◌++◌, ◌-◌, length, replicate, None}
use Rattle.block_image.proofs.body.pad.Given as goal

abbrev pub invariant-loop : goal.invariant-loop
invariant-loop l = l.insts.items ≡ l.initial.insts.items ++ replicate
    (l.counter - length l.initial.insts.items) None
