use Rattle.std.proofs.Common.{◌≡◌, ◌++◌, slice_index_or}
use Rattle.trips_report.specs.Commits.{lines_below}
use Rattle.trips_report.proofs.commits.put_counts.Given as goal

-- the lines of those so far are written
abbrev pub invariant-loop-k : goal.invariant-loop-k
invariant-loop-k l =
    l.out.items ≡ l.initial.out.items ++ lines_below (λ k. slice_index_or l.counts k 0) l.k
