use Rattle.std.proofs.Common.{length}
use Rattle.flow_fold.proofs.tests.+are_bits.Given as goal

abbrev pub decreases-are_bits : goal.decreases-are_bits
decreases-are_bits l = length l.sources.now
