-- The bytes of a saved state and its image (docs/SAVES.md): one spelling for each. Own: the format.
use Rattle.std.specs.Prelude.{◌≡◌, ℕ, ◌≤◌, ◌<◌, ◌^◌, List, ◌++◌, length, All, codes}
use Rattle.std.specs.List.{flat_map}
use Rattle.byteorder.specs.Endian.{big_bytes}
use Rattle.trips_isa.specs.declared.block.Image.{Image}
use Rattle.trips_isa.specs.Images.{last_byte}
use Rattle.trips_isa.specs.Machine.{State, memory_of}
use Rattle.block_check.specs.Faults.{IsGood}
use Rattle.block_image.specs.Spelling.{ImageBytes}
use Rattle.machine_save.specs.Limits.{most_output, most_memory, most_rest}

-- the letters that every save file begins with
abbrev pub magic : List ℕ
magic = codes "TRIPSSAV"

-- the magic, the version, the next block and the registers, and what follows
abbrev pub head : ℕ → List ℕ → List ℕ → List ℕ
head next registers more =
    magic ++ (big_bytes 4 1 ++ (big_bytes 4 next ++ (flat_map (big_bytes 8) registers ++ more)))

-- the number of a list's bytes and these, and what follows
abbrev pub listed : List ℕ → List ℕ → List ℕ
listed xs more = big_bytes 4 (length xs) ++ (xs ++ more)

-- the bytes begin with a next block and 128 registers, and `more` follows: 1,040 bytes stand before it
pub record IsHead (bytes : List ℕ) (next : ℕ) (registers more : List ℕ) : Type 0 where
  -- the number of the next block has four bytes
  pub fits : next < 2 ^ 32
  pub count : length registers ≡ 128
  pub words : All (λ w. w < 2 ^ 64) registers
  pub spelled : bytes ≡ head next registers more

-- The bytes begin with what is saved of a state, and `part` follows. Data memory begins with `stored`.
pub record IsFront (bytes : List ℕ) (next : ℕ) (registers output stored rest part : List ℕ) : Type 0 where
  pub few_output : length output ≤ most_output
  pub few_stored : length stored ≤ most_memory
  -- no byte 0 ends the stored bytes
  pub last : last_byte stored ≡ 0 → ⊥
  pub few_rest : length rest ≤ most_rest
  pub spelled : IsHead bytes next registers (listed output (listed stored (listed rest part)))

-- The bytes are those of an image of good blocks and a state of it, whatever its trace.
pub record SaveBytes (image : Image) (s : State) (bytes : List ℕ) : Type 0 where
  -- the bytes up to the last one of data memory that is not 0
  pub stored : List ℕ
  pub memory : s.memory ≡ memory_of stored
  -- the image stands behind the state
  pub part : List ℕ
  pub front : IsFront bytes s.next s.registers s.output stored s.rest part
  pub is_image : ImageBytes image part
  pub good : All IsGood image.blocks
  -- the run goes on with a block of the image
  pub inside : s.next < length image.blocks
