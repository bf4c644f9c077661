-- The words of a block's header: in word i two info bits, read i and the register of write i.
use Rattle.std.specs.Prelude.{ℕ, zero, suc, ◌+◌, ◌/◌, ◌%◌, ◌^◌, List, [], ◌∷◌, Option, Some, None}
use Rattle.trips_isa.specs.declared.block.Spot.{Spot}
use Rattle.trips_isa.specs.declared.block.Spot.TheVariants as spot
use Rattle.trips_isa.specs.declared.block.ReadSlot.{ReadSlot}
use Rattle.block_image.specs.Words.{word_of}

-- the head of a list, if it has one
abbrev pub first_of : {A : Type 0} → List A → Option A
first_of [] = None
first_of (x ∷ xs) = Some x

-- what stands behind it
abbrev pub rest_of : {A : Type 0} → List A → List A
rest_of [] = []
rest_of (x ∷ xs) = xs

-- 128 for the right operand, and the slot
abbrev pub operand_number : Spot → ℕ
operand_number (spot.Left s) = s
operand_number (spot.Right s) = 128 + s
operand_number s = 0

-- a read with one target has it twice
abbrev pub second_number : Spot → Option Spot → ℕ
second_number first None = operand_number first
second_number first (Some s) = operand_number s

-- register, second target, first target; fields past the count are 0
abbrev pub read_fields : Option ReadSlot → ℕ
read_fields None = 0
read_fields (Some r) = word_of
    ((7, r.register) ∷ (8, second_number r.first r.second) ∷ (8, operand_number r.first) ∷ [])

-- the register of a write; 0 past the count
abbrev pub write_field : Option ℕ → ℕ
write_field None = 0
write_field (Some register) = register

-- the two info bits, the fields of the read and the register of the write
abbrev pub header_word : ℕ → Option ReadSlot → Option ℕ → ℕ
header_word pair read write =
    word_of ((2, pair) ∷ (23, read_fields read) ∷ (7, write_field write) ∷ [])

-- The last n words: the top two of 2n info bits, the first read and the first write, then the
-- others.
unfoldable pub words_from : ℕ → ℕ → List ReadSlot → List ℕ → List ℕ
words_from zero info reads writes = []
words_from (suc n) info reads writes =
    header_word (info / 4 ^ n) (first_of reads) (first_of writes) ∷ words_from n (info % 4 ^ n)
    (rest_of reads) (rest_of writes)

-- the 64 info bits: the store mask, the numbers of reads, writes and body chunks, and zeros
abbrev pub info_of : ℕ → ℕ → ℕ → ℕ → ℕ
info_of mask reads writes chunks =
    word_of ((32, mask) ∷ (6, reads) ∷ (6, writes) ∷ (3, chunks) ∷ (17, 0) ∷ [])
