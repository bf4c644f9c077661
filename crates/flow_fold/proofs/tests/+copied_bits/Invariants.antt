use Rattle.std.proofs.Common.{length}
use Rattle.flow_fold.proofs.tests.+copied_bits.Given as goal

abbrev pub decreases-copied_bits : goal.decreases-copied_bits
decreases-copied_bits l = length l.sources.now
