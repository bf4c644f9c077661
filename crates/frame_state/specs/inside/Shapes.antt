-- The shape of a block, and which slots are ready.
use Rattle.std.specs.Prelude.{◌≡◌, ℕ, ◌<◌, Bool, false, ◌&&◌, ◌||◌, not, is_some, is_none, slice_index_or}
use Rattle.trips_isa.specs.declared.block.Block.{Block}
use Rattle.block_cases.specs.Orders.{slot_of, left_of, right_of}
use Rattle.commit_flush_spec.specs.Frames.{Frame, slot_node}
use Rattle.commit_flush_spec.specs.Older.{is_serial}
use Rattle.commit_flush_spec.specs.Sending.{token_with}
use Rattle.frame_state.specs.declared.shape.Shape.{Shape}
use Rattle.frame_state.specs.inside.Wants.{is_on_true, is_on_false}

-- the flags of a shape say what each slot of a block wants, and what the block may do
pub record IsShape (b : Block) (shape : Shape) : Type 0 where
  -- there is an instruction in the slot
  pub there : (s : ℕ) → s < 128 → slice_index_or shape.there s false ≡ is_some (slot_of b s)
  -- which operands it takes
  pub left : (s : ℕ) → s < 128 → slice_index_or shape.left s false ≡ left_of (slot_of b s)
  pub right : (s : ℕ) → s < 128 → slice_index_or shape.right s false ≡ right_of (slot_of b s)
  -- how it is predicated; one that always fires wants neither
  pub on_true : (s : ℕ) → s < 128 → slice_index_or shape.on_true s false ≡ is_on_true (slot_of b s)
  pub on_false : (s : ℕ) → s < 128 → slice_index_or shape.on_false s false ≡ is_on_false (slot_of b s)
  -- whether it may make a system call
  pub serial : shape.serial ≡ is_serial b

-- whether slot s fires now: it holds an instruction, has not fired, and gives a token
abbrev pub is_ready : Frame → ℕ → Bool
is_ready f s = not (is_none (slot_of f.code s) || slice_index_or f.fired s false)
    && is_some (token_with f (slot_node f.code s) 0)
