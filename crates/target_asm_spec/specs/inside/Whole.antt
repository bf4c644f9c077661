-- A whole text, read: its head, its data bytes and its blocks.
use Rattle.std.specs.Prelude.{ℕ, zero, suc, ◌+◌, ◌/◌, ◌%◌, ℤ, pos, negsuc, List, [], ◌∷◌}
use Rattle.std.specs.Prelude.{Option, Some, None, Bool, true, false, ◌==◌, ◌||◌}
use Rattle.std.specs.Prelude.{not, nat_lt, nat_le}
use Rattle.std.specs.Prelude.{if◌then◌else◌, codes, Result, Ok}
use Rattle.trips_isa.specs.declared.block.Block.{Block}
use Rattle.trips_isa.specs.declared.block.Image.{Image}
use Rattle.trips_isa.specs.Images.{chunks, last_byte}
use Rattle.target_asm_spec.specs.inside.Chunks.{start_rows}
use Rattle.target_asm_spec.specs.declared.fault.AsmFault.{AsmFault}
use Rattle.target_asm_spec.specs.declared.fault.AsmFault.TheVariants.{Syntax, Range}
use Rattle.target_asm_spec.specs.Reading.{◌>>=◌}
use Rattle.target_asm_spec.specs.inside.Reading.{after_in, number_in, byte_in}
use Rattle.target_asm_spec.specs.inside.Blocks.{◌>>>◌, or_fault, wants, Begins, blocks_in}

-- whether nothing is left of a text
abbrev pub is_empty : List ℕ → Bool
is_empty [] = true
is_empty (c ∷ cs) = false

-- the number of data bytes that their line tells
unfoldable pub count_in : List ℕ → Option (ℤ × List ℕ)
count_in text = after_in (codes "data ") text >>= λ a. number_in a
    >>= λ n. after_in (codes "\n") n.1 >>= λ rest. Some (n.0, rest)

-- how many data bytes there are, at most 4,194,304
unfoldable pub bytes_limit : ℤ → Option ℕ
bytes_limit (pos n) = if nat_le n 4194304 then Some n else None
bytes_limit (negsuc n) = None

-- the first two lines
unfoldable pub front_in : List ℕ → Result (ℕ × List ℕ) AsmFault
front_in text =
    or_fault (Syntax 1) (after_in (codes "trips 1\n") text) >>> λ a.
    or_fault (Syntax 2) (count_in a) >>> λ n.
    or_fault (Range 2) (bytes_limit n.0) >>> λ count. Ok (count, n.1)

-- a line feed after each 32nd byte and after the last of `count`
abbrev pub feed_in : ℕ → ℕ → List ℕ → Option (List ℕ)
feed_in count at text =
    if ((at + 1) % 32 == 0) || (at + 1 == count) then after_in (codes "\n") text else Some text

-- the byte at a place of so many
unfoldable pub data_byte_in : ℕ → ℕ → List ℕ → Option (ℕ × List ℕ)
data_byte_in count at text = byte_in text >>= λ b. feed_in count at b.1 >>= λ rest. Some (b.0, rest)

-- the line of the byte at a place, where the first line is the third
abbrev pub line_of_byte : ℕ → ℕ
line_of_byte at = 3 + at / 32

-- what is wrong with a byte that is not spelled, at its line
abbrev pub byte_fault : ℕ → AsmFault
byte_fault at = Syntax (line_of_byte at)

-- so many bytes, from a place of `count` on
unfoldable pub bytes_in : ℕ → ℕ → ℕ → List ℕ → Result (List ℕ × List ℕ) AsmFault
bytes_in count zero at text = Ok ([], text)
bytes_in count (suc n) at text =
    or_fault (byte_fault at) (data_byte_in count at text) >>> λ b.
    bytes_in count n (at + 1) b.1 >>> λ bs. Ok (b.0 ∷ bs.0, bs.1)

-- the lines of so many data bytes
abbrev pub data_lines : ℕ → ℕ
data_lines count = (count + 31) / 32

-- the data bytes, of which the last is not zero
unfoldable pub data_in : ℕ → List ℕ → Result (List ℕ × List ℕ) AsmFault
data_in count text =
    bytes_in count count 0 text >>> λ bs.
    wants (nat_lt 0 (last_byte bs.0)) (Range (2 + data_lines count)) >>> λ u. Ok bs

-- the chunk at which each block begins
abbrev pub chunks_from : ℕ → List Block → List ℕ
chunks_from here [] = []
chunks_from here (b ∷ bs) = here ∷ chunks_from (here + chunks b) bs

-- the tables of where blocks begin, from the blocks of the first reading
abbrev pub begins_of : List Block → Begins
begins_of blocks =
    record { known = true; chunks = chunks_from 0 blocks; starts = start_rows 0 blocks }

-- the tables before the first reading, which judges no goal
abbrev pub unknown : Begins
unknown = record { known = false; chunks = []; starts = [] }

-- all blocks, where they are known to begin or not
unfoldable pub body_in : Begins → ℕ → List ℕ → Result (List Block) AsmFault
body_in b line text = blocks_in b 262145 0 0 line text

-- The blocks are read twice: first to see where they begin, and then with their offsets.
unfoldable pub image_in : List ℕ → Result Image AsmFault
image_in text =
    front_in text >>> λ f. data_in f.0 f.1 >>> λ d.
    wants (not (is_empty d.1)) (Syntax (3 + data_lines f.0)) >>> λ u.
    body_in unknown (3 + data_lines f.0) d.1 >>> λ first.
    body_in (begins_of first) (3 + data_lines f.0) d.1 >>> λ blocks.
    Ok (record { blocks = blocks; bytes = d.0 })
