use Rattle.std.proofs.Common.{◌≡◌, ℕ}
use Rattle.operand_net.specs.Places.{at}
use Rattle.operand_net.specs.Tick.{frames_want}
use Rattle.operand_net.specs.inside.Rows.{taken}
use Rattle.grid_tallies.specs.Statistics.{Heard}
use Rattle.grid_tallies.specs.inside.Travelling.{frame_moves}
use Rattle.grid_tallies.proofs.travelling.moves.Given as goal

abbrev pub invariant-loop-n : goal.invariant-loop-n
invariant-loop-n l = record {
  heard : Heard l.initial.told (frame_moves l.order (at l.mesh) l.n) l.told;
  marks : (k : ℕ) → taken l.links.nodes k ≡ frames_want l.n (at l.mesh) l.order k;
}
