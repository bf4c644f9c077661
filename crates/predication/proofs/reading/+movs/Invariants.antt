use Rattle.std.proofs.Common.{length}
use Rattle.predication.proofs.reading.+movs.Given as goal

abbrev pub decreases-movs : goal.decreases-movs
decreases-movs l = length l.kept.now
