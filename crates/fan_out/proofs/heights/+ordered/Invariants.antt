use Rattle.std.proofs.Common.{length}
use Rattle.fan_out.proofs.heights.+ordered.Given as goal

abbrev pub decreases-ordered : goal.decreases-ordered
decreases-ordered l = length l.spots.now
