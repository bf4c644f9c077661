use Rattle.std.proofs.Common.{length}
use Rattle.flow_fold.proofs.waits.+wait_twice.Given as goal

abbrev pub decreases-wait_twice : goal.decreases-wait_twice
decreases-wait_twice l = length l.sources.now
