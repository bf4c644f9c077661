use Rattle.std.proofs.Common.{◌≡◌, ◌<◌, ◌+◌, ◌^◌, drop}
use Rattle.trips_report.specs.Commits.{above, greater}
use Rattle.trips_report.proofs.commits.above.Given as goal

-- with those that are left the number is that of the whole trace
abbrev pub invariant-loop-traced : goal.invariant-loop-traced
invariant-loop-traced l = greater l.most (above (drop l.traced-index l.trace)) ≡ above l.trace
