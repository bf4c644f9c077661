-- The first fault of bytes that are no image's, in the order of the bytes.
use Rattle.std.specs.Prelude.{◌≡◌, ◌≤◌, ◌<◌, ◌+◌, ◌*◌, ◌^◌, ℕ, List, ◌∷◌, ◌++◌, length, take, All}
use Rattle.std.specs.List.{flat_map, sum_by}
use Rattle.byteorder.specs.Endian.{big_bytes}
use Rattle.trips_isa.specs.declared.block.Block.{Block}
use Rattle.trips_isa.specs.declared.block.Image.{Image}
use Rattle.trips_isa.specs.Fits.{FitsBlock}
use Rattle.trips_isa.specs.Images.{chunks, last_byte, FitsImage}
use Rattle.trips_isa.specs.Limits.{most_chunks}
use Rattle.block_image.specs.declared.fault.ImageFault.{ImageFault}
use Rattle.block_image.specs.declared.fault.ImageFault.TheVariants.{Magic, Version, Truncated}
use Rattle.block_image.specs.declared.fault.ImageFault.TheVariants.{Trailing, BadField}
use Rattle.block_image.specs.Spelling.{magic, container, block_bytes, spelling}
use Rattle.block_image.specs.Faults.{BlockFault}

-- the magic, the version and the number of blocks
abbrev pub counted : ℕ → List ℕ
counted blocks = magic ++ (big_bytes 4 1 ++ big_bytes 4 blocks)

-- these, and the number of data bytes
abbrev pub sized : ℕ → ℕ → List ℕ
sized blocks size = counted blocks ++ big_bytes 4 size

-- the number of blocks and the data bytes are within their limits
pub record GoodFront (blocks : ℕ) (bytes : List ℕ) : Type 0 where
  pub some : 1 ≤ blocks
  -- the number of blocks has four bytes
  pub count : blocks < 2 ^ 32
  pub few : length bytes ≤ 4194304
  -- no byte 0 ends the data bytes
  pub last : last_byte bytes ≡ 0 → ⊥

-- some of the blocks that an image begins with
pub record GoodBlocks (count : ℕ) (blocks : List Block) : Type 0 where
  -- there is one more to come
  pub fewer : length blocks < count
  pub each : All FitsBlock blocks
  -- their chunks, each block's header and body, are within the limit
  pub total : sum_by chunks blocks ≤ most_chunks

-- The first fault of bytes, with the place that it is told at: each rule asks that all that comes
-- before is as an image has it, and says what is wrong next.
pub data FirstFault (bytes : List ℕ) : ImageFault → Type 0 where
  -- the magic
  no_magic : length bytes < 8 → FirstFault bytes (Truncated (length bytes))
  bad_magic : 8 ≤ length bytes → (take 8 bytes ≡ magic → ⊥) → FirstFault bytes Magic
  -- the version
  no_version : (rest : List ℕ) → bytes ≡ magic ++ rest → length rest < 4
      → FirstFault bytes (Truncated (length bytes))
  bad_version : (v : ℕ) (rest : List ℕ) → bytes ≡ magic ++ (big_bytes 4 v ++ rest) → v < 2 ^ 32
      → (v ≡ 1 → ⊥)
      → FirstFault bytes Version
  -- the number of blocks
  no_count : (rest : List ℕ) → bytes ≡ magic ++ (big_bytes 4 1 ++ rest) → length rest < 4
      → FirstFault bytes (Truncated (length bytes))
  no_block : (rest : List ℕ) → bytes ≡ counted 0 ++ rest → FirstFault bytes (BadField 12)
  -- the number of data bytes
  no_size : (n : ℕ) (rest : List ℕ) → bytes ≡ counted n ++ rest → 1 ≤ n → n < 2 ^ 32
      → length rest < 4
      → FirstFault bytes (Truncated (length bytes))
  large : (n d : ℕ) (rest : List ℕ) → bytes ≡ sized n d ++ rest → 1 ≤ n → n < 2 ^ 32 → 4194304 < d
      → d < 2 ^ 32
      → FirstFault bytes (BadField 16)
  -- the data bytes
  no_bytes : (n d : ℕ) (rest : List ℕ) → bytes ≡ sized n d ++ rest → 1 ≤ n → n < 2 ^ 32
      → d ≤ 4194304 → length rest < d
      → FirstFault bytes (Truncated (length bytes))
  zero_last : (n : ℕ) (front rest : List ℕ) → bytes ≡ container n front ++ rest → 1 ≤ n → n < 2 ^ 32
      → length front ≤ 4194304 → last_byte front ≡ 0
      → FirstFault bytes (BadField (19 + length front))
  -- the blocks
  in_block : (n : ℕ) (front rest : List ℕ) (blocks : List Block) (f : ImageFault)
      → GoodFront n front → GoodBlocks n blocks
      → bytes ≡ container n front ++ (flat_map block_bytes blocks ++ rest)
      → BlockFault (sum_by chunks blocks) (20 + length front + 128 * sum_by chunks blocks) bytes f
      → FirstFault bytes f
  -- what follows
  trailing : (image : Image) (b : ℕ) (rest : List ℕ) → FitsImage image
      → bytes ≡ spelling image ++ (b ∷ rest)
      → FirstFault bytes (Trailing (length (spelling image)))
