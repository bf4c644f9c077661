use Rattle.std.proofs.Common.{◌-◌, length}
use Rattle.block_check.proofs.search.+search.Given as goal

abbrev pub decreases-search : goal.decreases-search
decreases-search l = length l.order.now - l.from
