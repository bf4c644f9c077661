use Rattle.std.proofs.Common.{length}
use Rattle.flow_fold.proofs.waits.+wait_thrice.Given as goal

abbrev pub decreases-wait_thrice : goal.decreases-wait_thrice
decreases-wait_thrice l = length l.sources.now
