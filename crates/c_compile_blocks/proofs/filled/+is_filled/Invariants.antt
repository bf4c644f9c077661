use Rattle.std.proofs.Common.{length}
use Rattle.c_compile_blocks.proofs.filled.+is_filled.Given as goal

-- the leg grows shorter
abbrev pub decreases-is_filled : goal.decreases-is_filled
decreases-is_filled l = length l.leg.now
