use Rattle.std.proofs.Common.{◌≡◌, ◌-◌, ◌≤◌}
use Rattle.trips_isa.specs.Marks.{least_at, numbers_to}
use Rattle.commit_flush_spec.specs.Marks.{mark_held}
use Rattle.frame_state.proofs.body.Body.least_of_numbers.Given as goal

abbrev pub invariant-loop-number : goal.invariant-loop-number
invariant-loop-number l = record {
  bound : l.number ≤ 32;
  least : l.mark ≡ least_at (mark_held l.self.marks) (numbers_to l.mask l.number);
}

abbrev pub decreases-loop-number : goal.decreases-loop-number
decreases-loop-number l = 32 - l.number
