use Rattle.std.proofs.Common.{◌≡◌, ◌≤◌, ◌-◌, ◌||◌, ℕ}
use Rattle.operand_net.specs.Places.{at}
use Rattle.operand_net.specs.Tick.{any_wants}
use Rattle.operand_net.specs.inside.Rows.{taken}
use Rattle.grid_tallies.specs.Statistics.{Heard}
use Rattle.grid_tallies.specs.inside.Travelling.{row_moves}
use Rattle.grid_tallies.proofs.travelling.frame_moves.Given as goal

abbrev pub invariant-loop-from : goal.invariant-loop-from
invariant-loop-from l = record {
  heard : Heard l.initial.told (row_moves (taken l.initial.links.nodes) l.frame (at l.mesh l.frame) l.from) l.told;
  marks : (k : ℕ) → taken l.links.nodes k ≡ (taken l.initial.links.nodes k || any_wants l.from (at l.mesh l.frame) k);
  within : l.from ≤ 320;
}

abbrev pub decreases-loop-from : goal.decreases-loop-from
decreases-loop-from l = 320 - l.from
