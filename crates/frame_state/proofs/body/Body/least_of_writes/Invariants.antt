use Rattle.std.proofs.Common.{◌≡◌}
use Rattle.trips_isa.specs.Marks.{least_at, writes_to}
use Rattle.commit_flush_spec.specs.Marks.{mark_held}
use Rattle.frame_state.proofs.body.Body.least_of_writes.Given as goal

abbrev pub invariant-loop-w : goal.invariant-loop-w
invariant-loop-w l = l.mark ≡ least_at (mark_held l.self.marks) (writes_to l.w)
