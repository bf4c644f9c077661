-- Beside what is believed of Reading.antt: reading a block from left to right, with the first fault that is
-- met.
use Rattle.std.specs.Prelude.{ℕ, zero, suc, ◌+◌, ◌-◌, ◌*◌, List, [], ◌∷◌, ◌++◌, length, map, take}
use Rattle.std.specs.Prelude.{drop, replicate, Option, Some, None, Result, Ok, Err}
use Rattle.std.specs.Prelude.{◌&&◌, nat_lt, if◌then◌else◌}
use Rattle.byteorder.specs.Endian.{big_number}
use Rattle.trips_isa.specs.declared.block.Inst.{Inst}
use Rattle.trips_isa.specs.declared.block.Block.{Block}
use Rattle.trips_isa.specs.Limits.{most_chunks}
use Rattle.block_image.specs.declared.fault.ImageFault.{ImageFault}
use Rattle.block_image.specs.declared.fault.ImageFault.TheVariants.{Truncated, BadField}
use Rattle.block_image.specs.inside.WordReading.{slot_of_word}
use Rattle.block_image.specs.HeaderReading.{info_from, reads_in}
use Rattle.block_image.specs.inside.HeaderReading.{first_bad, read_at, write_at}
use Rattle.block_image.specs.HeaderReading.{writes_in, chunks_in}
use Rattle.block_image.specs.inside.HeaderReading.{mask_in}
use Rattle.block_image.specs.Reading.{◌>>=◌, Slots, all_empty}

-- the first n words of bytes, four bytes each, the most significant first
unfoldable pub words : ℕ → List ℕ → List ℕ
words zero bytes = []
words (suc n) bytes = big_number 4 bytes ∷ words n (drop 4 bytes)

-- what the word at this byte says of a slot, or that it is no instruction
abbrev pub slot_or_fault : ℕ → Option (Option Inst) → Result (Option Inst) ImageFault
slot_or_fault at None = Err (BadField at)
slot_or_fault at (Some s) = Ok s

-- what was read before, and what is still read
abbrev pub with_front : Slots → Result Slots ImageFault → Result Slots ImageFault
with_front front read = read >>= λ slots. Ok (front ++ slots)

-- the slots of some words, of which the first stands at this byte
abbrev pub slots_at : ℕ → List ℕ → Result Slots ImageFault
slots_at at [] = Ok []
slots_at at (w ∷ ws) = slot_or_fault at (slot_of_word w) >>= λ s. with_front (s ∷ [])
    (slots_at (at + 4) ws)

-- a chunk is taken whole
unfoldable pub chunk_at : ℕ → List ℕ → Result (List ℕ) ImageFault
chunk_at at bytes =
    if nat_lt (length bytes) (at + 128) then Err (Truncated (length bytes)) else Ok
    (words 32 (drop at bytes))

-- the slots of n body chunks from this byte on, one whole chunk after the other
abbrev pub body_at : ℕ → ℕ → List ℕ → Result Slots ImageFault
body_at zero at bytes = Ok []
body_at (suc n) at bytes =
    chunk_at at bytes >>= λ ws. slots_at at ws >>= λ s. with_front s (body_at n (at + 128) bytes)

-- that word i of a header is bad, if one is
abbrev pub fault_at : ℕ → Option ℕ → Result (Unit {0}) ImageFault
fault_at at None = Ok tt
fault_at at (Some i) = Err (BadField (at + 4 * i))

-- the info bits, where the total of chunks and each word is good
unfoldable pub header_at : ℕ → ℕ → List ℕ → Result ℕ ImageFault
header_at total at ws =
    if nat_lt most_chunks (total + 1 + chunks_in (info_from 0 ws)) then Err (BadField at)
    else (fault_at at (first_bad (info_from 0 ws) 0 ws) >>= λ u. Ok (info_from 0 ws))

-- a block of its info bits, the words of its header and its used slots; the slots past the body are
-- empty
unfoldable pub parts_from : ℕ → List ℕ → Slots → Block
parts_from info ws slots = record {
  reads = record { items = map read_at (take (reads_in info) ws) };
  writes = record { items = map write_at (take (writes_in info) ws) };
  mask = mask_in info;
  insts = record { items = slots ++ replicate (128 - length slots) None };
}

-- the number of body chunks is the least
unfoldable pub least_at : ℕ → ℕ → Slots → Result Slots ImageFault
least_at at chunks slots =
    if nat_lt 1 chunks && all_empty (drop (32 * (chunks - 1)) slots) then Err
    (BadField (at + 64)) else Ok slots

-- the block whose header has these words
abbrev pub rest_at : ℕ → ℕ → List ℕ → List ℕ → Result Block ImageFault
rest_at total at bytes ws =
    header_at total at ws >>= λ info.
    body_at (chunks_in info) (at + 128) bytes >>= λ slots.
    least_at at (chunks_in info) slots >>= λ good.
    Ok (parts_from info ws good)

-- the block whose header begins at a byte, with so many chunks before it
unfoldable pub block_at : ℕ → ℕ → List ℕ → Result Block ImageFault
block_at total at bytes = chunk_at at bytes >>= λ ws. rest_at total at bytes ws
