-- The grid as the code keeps it: flags in rows, numbers in arrays.
use Rattle.std.specs.Prelude.{false, slice_index_or}
use Rattle.operand_net.specs.Places.{at}
use Rattle.commit_flush_spec.specs.Window.{Window}
use Rattle.grid_cycle_spec.specs.Grid.{Grid}
use Rattle.grid_parts.specs.Bits.{frame_bit}
use Rattle.grid_parts.specs.declared.state.State.{State}

-- a window, and what is under way beside it
abbrev pub seen : {W : Type 0} → Window → State W → Grid W
seen window s = record {
  window = window;
  parcels = at s.mesh;
  asked = frame_bit s.asked.words;
  units = λ t. slice_index_or s.units t 0;
  works = frame_bit s.works.words;
  fetching = s.fetching;
  standing = s.standing;
  waits = λ k. slice_index_or s.waits k false;
  careful = λ f. slice_index_or s.careful f false;
  histories = λ f. slice_index_or s.histories f 0;
  predictor = s.predictor;
  weather = s.weather;
  counts = s.counts;
}
