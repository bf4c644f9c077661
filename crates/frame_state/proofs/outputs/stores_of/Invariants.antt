use Rattle.std.proofs.Common.{◌≡◌, ◌≤◌, take, length}
use Rattle.trips_isa.specs.Stores.{listed_below}
use Rattle.commit_flush_spec.specs.Frames.{at}
use Rattle.frame_state.proofs.outputs.stores_of.Given as goal

abbrev pub invariant-loop-number : goal.invariant-loop-number
invariant-loop-number l = record {
  size : length l.kept ≡ 32;
  room : l.count ≤ l.number;
  kept : take l.count l.kept ≡ listed_below (at l.stores) l.number;
}
