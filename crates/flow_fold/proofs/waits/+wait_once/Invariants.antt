use Rattle.std.proofs.Common.{length}
use Rattle.flow_fold.proofs.waits.+wait_once.Given as goal

abbrev pub decreases-wait_once : goal.decreases-wait_once
decreases-wait_once l = length l.sources.now
