use Rattle.std.proofs.Common.{length}
use Rattle.trips_messages.proofs.nearest.+is_one_away.Given as goal

abbrev pub decreases-is_one_away : goal.decreases-is_one_away
decreases-is_one_away l = length l.a.now
