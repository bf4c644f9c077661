use Rattle.std.proofs.Common.{arith}
use Rattle.block_image.proofs.Writing.{few_blocks}
use Rattle.block_image.proofs.put.bytes_of.Goals as goal

pub overflow_cast-len : goal.overflow_cast-len
overflow_cast-len c = omega (arith, few_blocks c.args.image.now c.requires)
