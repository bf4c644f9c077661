-- The one operation that is compared with a word or with two numbers: it is looked for in a list of the
-- code's own, which no other definition reads.
use Rattle.std.specs.Prelude.{ℕ, ◌+◌, ◌*◌, ◌%◌, List, [], ◌∷◌, Option, Some, None, if◌then◌else◌, ◌==◌, ◌&&◌}
use Rattle.std.specs.Prelude.{nat_lt, get_or}
use Rattle.std.specs.Str.{bytes_eq}
use Rattle.trips_isa.specs.declared.op.Op.{Op}
use Rattle.trips_isa.specs.declared.op.Op.TheVariants as op
use Rattle.isa_table.specs.declared.lists.TheConstants.{BY_MNEMONIC, BY_NUMBERS, MODULUS, MULTIPLIER, PLACES}
use Rattle.isa_table.specs.Mnemonics.{mnemonic_of}
use Rattle.isa_table.specs.inside.Codes.{has_numbers}

-- BY MNEMONIC

-- a number below `MODULUS` of a word, which goes on with the number of what stands before it.
abbrev pub mixed : ℕ → List ℕ → ℕ
mixed start [] = start
mixed start (letter ∷ letters) = mixed ((start * MULTIPLIER + letter) % MODULUS) letters

-- the one operation that a word may name, by a perfect hash: the list has every operation at the place
-- of its own mnemonic
unfoldable pub candidate_by_mnemonic : List ℕ → Op
candidate_by_mnemonic word = get_or BY_MNEMONIC (mixed 0 word % PLACES) op.Add

-- that operation, where it has the mnemonic
unfoldable pub guessed_by_mnemonic : List ℕ → Option Op
guessed_by_mnemonic word =
    if bytes_eq (mnemonic_of (candidate_by_mnemonic word)) word
    then Some (candidate_by_mnemonic word) else None

-- BY NUMBERS

-- where the operation of two numbers stands in the list by numbers, if there is one
abbrev pub place_of_numbers : ℕ → ℕ → ℕ
place_of_numbers opcode extended =
    if opcode == 1 && nat_lt extended 32 then extended else (
    if opcode == 2 && nat_lt extended 32 then 32 + extended else (
    if nat_lt opcode 64 then 64 + opcode else 0))

-- the one operation that may have these numbers: any that has them stands at their place in the
-- list
unfoldable pub candidate_by_numbers : ℕ → ℕ → Op
candidate_by_numbers opcode extended = get_or BY_NUMBERS (place_of_numbers opcode extended) op.Add

-- that operation, where it has the numbers
unfoldable pub guessed_by_numbers : ℕ → ℕ → Option Op
guessed_by_numbers opcode extended =
    if has_numbers (candidate_by_numbers opcode extended) opcode extended
    then Some (candidate_by_numbers opcode extended) else None
