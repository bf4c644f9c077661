-- Flags of frames by the bits of a word for each.
use Rattle.std.specs.Prelude.{ℕ, Bool, List, slice_index_or}
use Rattle.operand_net.specs.Marks.{has_bit}

-- flag n of frame f
abbrev pub frame_bit : List ℕ → ℕ → ℕ → Bool
frame_bit words f n = has_bit (slice_index_or words f 0) n
