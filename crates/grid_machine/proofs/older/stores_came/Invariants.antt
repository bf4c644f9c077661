use Rattle.std.proofs.Common.{◌≡◌, ◌||◌, not, true, is_some}
use Rattle.trips_isa.specs.Places.{in_mask}
use Rattle.commit_flush_spec.specs.Ends.{all_below}
use Rattle.commit_flush_spec.specs.Frames.{at}
use Rattle.grid_machine.proofs.older.stores_came.Given as goal

abbrev pub invariant-loop-number : goal.invariant-loop-number
invariant-loop-number l = all_below (λ n. not (in_mask l.mask n) || is_some (at l.held.stores n)) l.number ≡ true
