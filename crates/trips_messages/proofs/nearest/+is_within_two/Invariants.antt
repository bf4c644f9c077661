use Rattle.std.proofs.Common.{length}
use Rattle.trips_messages.proofs.nearest.+is_within_two.Given as goal

abbrev pub decreases-is_within_two : goal.decreases-is_within_two
decreases-is_within_two l = length l.a.now
