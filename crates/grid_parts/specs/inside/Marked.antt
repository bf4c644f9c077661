-- Bits that mark all that may happen in the frames of a window, and perhaps more.
use Rattle.std.specs.Prelude.{◌≡◌, ℕ, ◌<◌, false, List, length, slice_index_or}
use Rattle.trips_isa.specs.declared.block.Block.{Block}
use Rattle.operand_net.specs.Marks.{has_bit}
use Rattle.commit_flush_spec.specs.Window.{Window, Fire, Read, can}
use Rattle.grid_cycle_spec.specs.Grid.{numbers_of}
use Rattle.grid_cycle_spec.specs.Acting.{is_done}

-- a slot without a mark may fire in no frame in flight
pub record SlotsMarked (blocks : List Block) (budget : ℕ) (w : Window) (marks : ℕ) : Type 0 where
  -- j counts the frames in flight by age, the oldest first
  pub none : (s j : ℕ) → s < 128 → j < length (numbers_of w.frames) → has_bit marks s ≡ false
      → is_done (can blocks budget (Fire (slice_index_or (numbers_of w.frames) j 0) s) w) ≡ false

-- a read without a mark in the word of its frame can not be answered
pub record ReadsMarked (blocks : List Block) (budget : ℕ) (w : Window) (words : List ℕ) : Type 0 where
  -- the word of frame n has a bit for each of its reads
  pub none : (n r : ℕ) → n < 8 → r < 32 → has_bit (slice_index_or words n 0) r ≡ false
      → is_done (can blocks budget (Read n r) w) ≡ false
