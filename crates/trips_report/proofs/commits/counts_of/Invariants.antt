use Rattle.std.proofs.Common.{◌≡◌, ◌≤◌, ◌<◌, ℕ, ◌+◌, drop, length, slice_index_or}
use Rattle.trips_report.specs.Commits.{above, commits_of}
use Rattle.trips_report.proofs.commits.counts_of.Given as goal

abbrev pub invariant-loop-traced : goal.invariant-loop-traced
invariant-loop-traced l = record {
  size : length l.counts.items ≡ l.numbers;
  -- the blocks that are left have numbers in the table
  fits : above (drop l.traced-index l.trace) ≤ l.numbers;
  -- with those that are left each is counted as often as in the whole trace
  each : (k : ℕ) → k < l.numbers
      → slice_index_or l.counts.items k 0 + commits_of k (drop l.traced-index l.trace) ≡ commits_of k l.trace;
}
