-- The youngest frame in flight.
use Rattle.std.specs.Prelude.{◌≡◌, ℕ, suc, Bool, false, List, Option, Some, None, length, slice_get}
use Rattle.trips_isa.specs.declared.block.Block.{Block}
use Rattle.commit_flush_spec.specs.Frames.{Frame}
use Rattle.commit_flush_spec.specs.Older.{is_serial}

-- it is the last one by age
abbrev pub IsYoungest : Option Frame → List Frame → Type 0
IsYoungest None fs = ⊥
IsYoungest (Some f) fs = (a : ℕ) × (slice_get fs a ≡ Some f) × (length fs ≡ suc a)

-- whether the youngest frame may make a system call is told by its block; where none is in flight it is false
abbrev pub IsSerialBy : List Block → Option ℕ → Bool → Type 0
IsSerialBy blocks None serial = serial ≡ false
IsSerialBy blocks (Some k) serial = (b : Block) → slice_get blocks k ≡ Some b → serial ≡ is_serial b
