-- The first fault of bytes that save nothing, in the order of the bytes; the next block is judged last.
use Rattle.std.specs.Prelude.{◌≡◌, ℕ, ◌+◌, ◌≤◌, ◌<◌, ◌^◌, List, ◌++◌, length, take, drop, All}
use Rattle.byteorder.specs.Endian.{big_bytes}
use Rattle.trips_isa.specs.declared.block.Image.{Image}
use Rattle.trips_isa.specs.Images.{last_byte}
use Rattle.block_check.specs.declared.fault.CheckFault.{CheckFault}
use Rattle.block_check.specs.Faults.{IsGood}
use Rattle.block_check.specs.Images.{IsFirstBad}
use Rattle.block_image.specs.declared.fault.ImageFault as image_fault
use Rattle.block_image.specs.Spelling.{ImageBytes}
use Rattle.block_image.specs.FirstFault.{FirstFault}
use Rattle.machine_save.specs.declared.fault.SaveFault.{SaveFault}
use Rattle.machine_save.specs.declared.fault.SaveFault.TheVariants as save
use Rattle.machine_save.specs.Limits.{most_output, most_memory, most_rest}
use Rattle.machine_save.specs.Spelling.{magic, listed, IsHead, IsFront}

-- a list at a place, of at most so many bytes: its length is cut off, or too great, or its bytes are cut off
pub data ListFault (most at : ℕ) (bytes : List ℕ) : SaveFault → Type 0 where
  no_length : length bytes < at + 4 → ListFault most at bytes (save.Truncated (length bytes))
  long : (n : ℕ) (more : List ℕ) → drop at bytes ≡ big_bytes 4 n ++ more → n < 2 ^ 32 → most < n
      → ListFault most at bytes (save.BadField at)
  cut : (n : ℕ) (more : List ℕ) → drop at bytes ≡ big_bytes 4 n ++ more → n < 2 ^ 32 → n ≤ most
      → length more < n
      → ListFault most at bytes (save.Truncated (length bytes))

-- The first fault of what stands before the image: each rule asks that all that comes before is as a saved state has
-- it, and says what is wrong next.
pub data FrontFault (bytes : List ℕ) : SaveFault → Type 0 where
  -- the magic
  no_magic : length bytes < 8 → FrontFault bytes (save.Truncated (length bytes))
  bad_magic : 8 ≤ length bytes → (take 8 bytes ≡ magic → ⊥) → FrontFault bytes save.Magic
  -- the version
  no_version : (rest : List ℕ) → bytes ≡ magic ++ rest → length rest < 4
      → FrontFault bytes (save.Truncated (length bytes))
  bad_version : (v : ℕ) (rest : List ℕ) → bytes ≡ magic ++ (big_bytes 4 v ++ rest) → v < 2 ^ 32
      → (v ≡ 1 → ⊥)
      → FrontFault bytes save.Version
  -- the next block and the registers
  no_registers : (rest : List ℕ) → bytes ≡ magic ++ (big_bytes 4 1 ++ rest) → length rest < 1028
      → FrontFault bytes (save.Truncated (length bytes))
  -- the output
  in_output : (next : ℕ) (registers more : List ℕ) (f : SaveFault) → IsHead bytes next registers more
      → ListFault most_output 1040 bytes f
      → FrontFault bytes f
  -- data memory
  in_memory : (next : ℕ) (registers output more : List ℕ) (f : SaveFault)
      → IsHead bytes next registers (listed output more) → length output ≤ most_output
      → ListFault most_memory (1044 + length output) bytes f
      → FrontFault bytes f
  zero_last : (next : ℕ) (registers output stored more : List ℕ)
      → IsHead bytes next registers (listed output (listed stored more)) → length output ≤ most_output
      → length stored ≤ most_memory → last_byte stored ≡ 0
      → FrontFault bytes (save.BadField (1047 + length output + length stored))
  -- the rest of the input
  in_rest : (next : ℕ) (registers output stored more : List ℕ) (f : SaveFault)
      → IsHead bytes next registers (listed output (listed stored more)) → length output ≤ most_output
      → length stored ≤ most_memory → (last_byte stored ≡ 0 → ⊥)
      → ListFault most_rest (1048 + length output + length stored) bytes f
      → FrontFault bytes f

-- The first fault of what stands behind a state with this next block: places count from its first byte.
pub data ImagePartFault (next : ℕ) (part : List ℕ) : SaveFault → Type 0 where
  -- the image
  no_image : (f : image_fault.ImageFault) → FirstFault part f → ImagePartFault next part (save.Image f)
  -- its blocks
  bad_block : (image : Image) (number : ℕ) (f : CheckFault) → ImageBytes image part → IsFirstBad image number f
      → ImagePartFault next part (save.Bad number f)
  -- the next block is none of them: its number stands at byte 12 of the file
  no_next : (image : Image) → ImageBytes image part → All IsGood image.blocks → length image.blocks ≤ next
      → ImagePartFault next part (save.BadField 12)

-- The first fault of bytes that save no image and no state.
pub data FirstSaveFault (bytes : List ℕ) : SaveFault → Type 0 where
  -- before the image
  in_front : (f : SaveFault) → FrontFault bytes f → FirstSaveFault bytes f
  -- in the image, or judged with it
  in_image : (next : ℕ) (registers output stored rest part : List ℕ) (f : SaveFault)
      → IsFront bytes next registers output stored rest part → ImagePartFault next part f
      → FirstSaveFault bytes f
