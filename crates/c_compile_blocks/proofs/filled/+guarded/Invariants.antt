use Rattle.std.proofs.Common.{length}
use Rattle.c_compile_blocks.proofs.filled.+guarded.Given as goal

-- the nodes grow fewer
abbrev pub decreases-guarded : goal.decreases-guarded
decreases-guarded l = length l.nodes.now
