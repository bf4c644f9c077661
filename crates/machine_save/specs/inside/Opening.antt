-- What opening answers, part for part.
use Rattle.std.specs.Prelude.{◌≡◌, ◌≤◌, ◌⊎◌, List, ℕ, length, [], All}
use Rattle.trips_isa.specs.declared.block.Image.{Image}
use Rattle.trips_isa.specs.Machine.{State, Machine, memory_of}
use Rattle.block_check.specs.Faults.{IsGood}
use Rattle.block_check.specs.Images.{IsFirstBad}
use Rattle.block_image.specs.Spelling.{ImageBytes}
use Rattle.machine_save.specs.declared.fault.SaveFault.{SaveFault}
use Rattle.machine_save.specs.declared.fault.SaveFault.TheVariants as save
use Rattle.machine_save.specs.Spelling.{SaveBytes}
use Rattle.machine_save.specs.FirstFault.{ImagePartFault}
use Rattle.machine_save.specs.inside.Reading.{next_in, registers_in}

-- want of memory
abbrev pub IsMemory : SaveFault → Type 0
IsMemory e = e ≡ save.Memory

-- want of memory, or one of these faults
abbrev pub IsMemoryOr : (SaveFault → Type 0) → SaveFault → Type 0
IsMemoryOr P e = (e ≡ save.Memory) ⊎ P e

-- the bytes spell an image of good blocks
pub record IsGoodImage (part : List ℕ) (image : Image) : Type 0 where
  pub spelled : ImageBytes image part
  pub good : All IsGood image.blocks

-- why bytes are no image of good blocks, whatever the next block
abbrev pub IsNoImage : List ℕ → SaveFault → Type 0
IsNoImage part e = (next : ℕ) → ImagePartFault next part e

-- the image has a bad block
abbrev pub IsBadIn : Image → SaveFault → Type 0
IsBadIn image (save.Bad number fault) = IsFirstBad image number fault
IsBadIn image e = ⊥

-- the next block is none of the image's
abbrev pub IsOutside : List ℕ → Image → SaveFault → Type 0
IsOutside bytes image e = (e ≡ save.BadField 12) × (length image.blocks ≤ next_in bytes)

-- the state that is saved, with an empty trace
abbrev pub state_in : List ℕ → List ℕ → List ℕ → List ℕ → State
state_in bytes output stored rest = record {
  registers = registers_in bytes;
  memory = memory_of stored;
  next = next_in bytes;
  rest = rest;
  output = output;
  trace = [];
}

-- an image and a machine are what the bytes save, with an empty trace and room for so many steps
pub record IsOpened (bytes : List ℕ) (budget : ℕ) (image : Image) (machine : Machine) : Type 0 where
  pub saves : SaveBytes image machine.state bytes
  pub trace : machine.state.trace ≡ []
  pub budget_is : machine.budget ≡ budget
