-- The text of an image (docs/MACHINE.md, "Target text"): its lines, each ended by a line feed.
use Rattle.std.specs.Prelude.{◌≡◌, ℕ, ℤ, pos, negsuc, ◌+ℤ◌, ◌+◌, ◌%◌, ◌==◌, List, [], ◌∷◌, ◌++◌, length}
use Rattle.std.specs.Prelude.{◌||◌, Option, Some, None, codes, if◌then◌else◌}
use Rattle.std.specs.Fmt.{decimal}
use Rattle.trips_isa.specs.declared.block.Inst.{Inst}
use Rattle.trips_isa.specs.declared.block.ReadSlot.{ReadSlot}
use Rattle.trips_isa.specs.declared.block.Block.{Block}
use Rattle.trips_isa.specs.declared.block.Image.{Image}
use Rattle.trips_isa.specs.Forms.{form_of}
use Rattle.trips_isa.specs.Images.{chunk_of, starting_at, FitsImage}
use Rattle.isa_table.specs.Mnemonics.{mnemonic_of}
use Rattle.isa_table.specs.Spots.{indexed}
use Rattle.target_asm_spec.specs.Numbers.{hex_byte, hex_word, numbered}
use Rattle.target_asm_spec.specs.Fields.{target_text, sense_text, numbers_text}

-- the block that begins at a chunk, if one does; none begins before the first chunk
abbrev pub goal_of : List Block → ℤ → Option ℕ
goal_of blocks (pos n) = starting_at blocks n
goal_of blocks (negsuc n) = None

-- the line of read i: `R[i] read G[r]`, and its one or two operands
unfoldable pub read_line : ℕ → ReadSlot → List ℕ
read_line i r = indexed 82 i ++ (codes " read " ++ (indexed 71 r.register
    ++ (target_text (Some r.first) ++ (target_text r.second ++ 10 ∷ []))))

-- the line of write i: `W[i] write G[r]`
unfoldable pub write_line : ℕ → ℕ → List ℕ
write_line i register = indexed 87 i ++ (codes " write " ++ (indexed 71 register ++ 10 ∷ []))

-- the operation with its predicate and its numbers
unfoldable pub op_text : Inst → Option ℕ → List ℕ
op_text i goal = mnemonic_of i.op ++ (sense_text i.sense ++ numbers_text (form_of i.op) i goal)

-- the targets, and the end of the line
unfoldable pub targets_text : Inst → List ℕ
targets_text i = target_text i.first ++ (target_text i.second ++ 10 ∷ [])

-- the line of the instruction in slot s, whose offset names this block, if it names one
unfoldable pub inst_line : ℕ → Inst → Option ℕ → List ℕ
inst_line s i goal = indexed 78 s ++ (32 ∷ (op_text i goal ++ targets_text i))

-- what stands in slot s, of a block that begins at `here`, where the block that begins at a chunk
-- is told
abbrev pub slot_text : (ℤ → Option ℕ) → ℕ → ℕ → Option Inst → List ℕ
slot_text goal here s None = []
slot_text goal here s (Some i) = inst_line s i (goal (pos here +ℤ i.imm))

-- the first line of block k, with its mask in eight hexadecimal digits
unfoldable pub block_line : ℕ → ℕ → List ℕ
block_line k mask = codes "block " ++ (decimal k ++ (codes " mask " ++ (hex_word mask ++ 10 ∷ [])))

-- block k, which begins at `here`
unfoldable pub block_text : (ℤ → Option ℕ) → ℕ → ℕ → Block → List ℕ
block_text goal here k b =
    block_line k b.mask ++ (numbered read_line 0 b.reads.items ++
    (numbered write_line 0 b.writes.items ++ numbered (slot_text goal here) 0 b.insts.items))

-- block k of an image, where an offset to a block of the same image is told by that block's number
abbrev pub block_in : List Block → ℕ → Block → List ℕ
block_in blocks k b = block_text (goal_of blocks) (chunk_of blocks k) k b

-- a line feed after each 32nd byte and after the last
abbrev pub data_end : ℕ → ℕ → List ℕ
data_end count at = if ((at + 1) % 32 == 0) || (at + 1 == count) then 10 ∷ [] else []

-- the byte at a place of so many
unfoldable pub byte_text : ℕ → ℕ → ℕ → List ℕ
byte_text count at b = hex_byte b ++ data_end count at

-- the first two lines, of which the second tells the number of data bytes
unfoldable pub head_lines : ℕ → List ℕ
head_lines count = codes "trips 1\ndata " ++ (decimal count ++ 10 ∷ [])

-- the one text of an image
abbrev pub image_text : Image → List ℕ
image_text i = head_lines (length i.bytes) ++
    (numbered (byte_text (length i.bytes)) 0 i.bytes ++ numbered (block_in i.blocks) 0 i.blocks)

-- an image that fits, and its text
pub record TargetText (i : Image) (text : List ℕ) : Type 0 where
  -- each image that fits has one text
  pub fits : FitsImage i
  pub spelled : text ≡ image_text i
