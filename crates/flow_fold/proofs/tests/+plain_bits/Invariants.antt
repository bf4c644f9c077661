use Rattle.std.proofs.Common.{length}
use Rattle.flow_fold.proofs.tests.+plain_bits.Given as goal

abbrev pub decreases-plain_bits : goal.decreases-plain_bits
decreases-plain_bits l = length l.sources.now
