use Rattle.std.proofs.Common.{◌≡◌, length, arith}
use Rattle.block_check.proofs.UsedSlots.{past_none}
use Rattle.block_check.proofs.targets.used_slots.Goals as goal

pub loop-used-init : goal.loop-used-init
loop-used-init c = record {
  within = omega arith;
  empty = λ j le. past_none c.args.block.now.insts.items j (let s :
      length c.args.block.now.insts.items ≡ 128 = c.requires.insts in omega arith);
}
