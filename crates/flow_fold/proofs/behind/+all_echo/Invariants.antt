use Rattle.std.proofs.Common.{length}
use Rattle.flow_fold.proofs.behind.+all_echo.Given as goal

abbrev pub decreases-all_echo : goal.decreases-all_echo
decreases-all_echo l = length l.sources.now
