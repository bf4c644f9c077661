-- Where the blocks of an image begin, and the images whose parts lie in their fields. Source: a header
-- and one to four body chunks of 128 bytes, TRIPS Processor Reference Manual, UT Austin TR-05-19. Own:
-- the image.
use Rattle.std.specs.Prelude.{◌≡◌, ℕ, suc, ◌+◌, ◌/◌, ◌<◌, ◌≤◌, ◌==◌, cond, max, List, [], ◌∷◌, take}
use Rattle.std.specs.Prelude.{Option, Some, None, All, length, unwrap_or}
use Rattle.std.specs.List.{sum_by}
use Rattle.trips_isa.specs.declared.block.Inst.{Inst}
use Rattle.trips_isa.specs.declared.block.Block.{Block}
use Rattle.trips_isa.specs.declared.block.Image.{Image}
use Rattle.trips_isa.specs.Fits.{FitsBlock}
use Rattle.trips_isa.specs.Limits.{most_chunks}

-- where blocks begin, in chunks of 128 bytes --------------------------------------------------

-- how many body chunks slot j needs, 32 slots a chunk, and 1 where it is empty
abbrev pub chunks_to : Option Inst → ℕ → ℕ
chunks_to None j = 1
chunks_to (Some i) j = j / 32 + 1

-- the least number of body chunks, from 1, that holds all used slots
abbrev pub body_chunks : ℕ → List (Option Inst) → ℕ
body_chunks j [] = 1
body_chunks j (i ∷ is) = max (chunks_to i j) (body_chunks (suc j) is)

-- a header chunk and the body
abbrev pub chunks : Block → ℕ
chunks b = 1 + body_chunks 0 b.insts.items

-- the chunk where block k begins
abbrev pub chunk_of : List Block → ℕ → ℕ
chunk_of blocks k = sum_by chunks (take k blocks)

-- the block that begins at a chunk, of those from number k on, whose first begins at `here`
abbrev pub starting_from : List Block → ℕ → ℕ → ℕ → Option ℕ
starting_from [] k here chunk = None
starting_from (b ∷ bs) k here chunk = cond (here == chunk) (Some k)
    (starting_from bs (suc k) (here + chunks b) chunk)

-- the block that begins at a chunk of an image, and none where none does
abbrev pub starting_at : List Block → ℕ → Option ℕ
starting_at blocks chunk = starting_from blocks 0 0 chunk

-- the same, and block 0 where none does
abbrev pub block_at : List Block → ℕ → ℕ
block_at blocks chunk = unwrap_or (starting_at blocks chunk) 0

-- images ------------------------------------------------------------------------------------------

-- the last byte, or 1 where there is none
abbrev pub last_byte : List ℕ → ℕ
last_byte [] = 1
last_byte (b ∷ []) = b
last_byte (b ∷ c ∷ bs) = last_byte (c ∷ bs)

-- an image has a block, at most `most_chunks` chunks and at most 4,194,304 bytes, and does not end in
-- a zero byte
pub record FitsImage (i : Image) : Type 0 where
  pub some : 1 ≤ length i.blocks
  pub each : All FitsBlock i.blocks
  -- the chunks of all blocks, each a header and a body
  pub total : sum_by chunks i.blocks ≤ most_chunks
  -- the bytes that data memory begins with
  pub few : length i.bytes ≤ 4194304
  -- each is a byte
  pub bytes : All (λ b. b < 256) i.bytes
  -- no byte 0 ends them, so that each start of data memory has one image
  pub last : last_byte i.bytes ≡ 0 → ⊥
