-- The bytes of an image that fits: its one spelling.
use Rattle.std.specs.Prelude.{◌≡◌, ℕ, ◌*◌, List, ◌++◌, length, map, take, Option, codes}
use Rattle.std.specs.List.{flat_map}
use Rattle.byteorder.specs.Endian.{big_bytes}
use Rattle.trips_isa.specs.declared.block.Inst.{Inst}
use Rattle.trips_isa.specs.declared.block.Block.{Block}
use Rattle.trips_isa.specs.declared.block.Image.{Image}
use Rattle.trips_isa.specs.Images.{body_chunks, FitsImage}
use Rattle.block_image.specs.Words.{slot_word}
use Rattle.block_image.specs.Headers.{words_from, info_of}

-- the least number of body chunks, from 1, that holds all used slots
unfoldable pub chunks_of : List (Option Inst) → ℕ
chunks_of slots = body_chunks 0 slots

-- the 32 words of a block's header
abbrev pub header_words : Block → List ℕ
header_words b =
    words_from 32 (info_of b.mask (length b.reads.items) (length b.writes.items)
    (chunks_of b.insts.items)) b.reads.items b.writes.items

-- a word for each slot of the body chunks, 32 a chunk, be it empty or not
abbrev pub body_words : Block → List ℕ
body_words b = map slot_word (take (32 * chunks_of b.insts.items) b.insts.items)

-- words of 32 bits, the most significant byte first
abbrev pub words_bytes : List ℕ → List ℕ
words_bytes words = flat_map (big_bytes 4) words

-- 128 bytes of header, and 128 for each body chunk
unfoldable pub block_bytes : Block → List ℕ
block_bytes b = words_bytes (header_words b ++ body_words b)

-- the letters that every image begins with
abbrev pub magic : List ℕ
magic = codes "TRIPSIMG"

-- what stands before the blocks: the magic, the version, the numbers of blocks and of data bytes,
-- and these
abbrev pub container : ℕ → List ℕ → List ℕ
container blocks bytes = magic ++
    (big_bytes 4 1 ++ (big_bytes 4 blocks ++ (big_bytes 4 (length bytes) ++ bytes)))

-- the bytes of an image: what stands before the blocks, and the blocks in their order
abbrev pub spelling : Image → List ℕ
spelling i = container (length i.blocks) i.bytes ++ flat_map block_bytes i.blocks

-- the bytes are the image's
pub record ImageBytes (image : Image) (bytes : List ℕ) : Type 0 where
  -- only an image whose fields lie in their fields has a spelling
  pub fits : FitsImage image
  pub spelled : bytes ≡ spelling image
