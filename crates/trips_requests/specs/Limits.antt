-- Numbers of the command line (one or more decimal digits), their limits and those of files, and the number
-- that stands where none is said (README.md of this crate). Own.
use Rattle.std.specs.Prelude.{ℕ, ◌+◌, ◌-◌, ◌*◌, Bool, not, ◌&&◌, ◌==◌, nat_le, if◌then◌else◌, List, [], ◌∷◌, length}
use Rattle.std.specs.Prelude.{Option, None, Some}
use Rattle.std.specs.List.{list_all}

-- the functions that the benchmark's text may have
abbrev pub most_functions : ℕ
most_functions = 64

-- the blocks or steps that may be asked for
abbrev pub most_count : ℕ
most_count = 4000000

-- the greatest seed, and the greatest number by which blocks may be placed: any word of the machine
abbrev pub most_seed : ℕ
most_seed = 18446744073709551615

-- the turns of a loop that a block of a compiled program may be asked to hold
abbrev pub most_turns : ℕ
most_turns = 8

-- the frames that there are, all of which may be in flight where no fewer are asked for
abbrev pub most_frames : ℕ
most_frames = 8

-- the blocks or steps that are taken where none are asked for
abbrev pub default_count : ℕ
default_count = 1000000

-- the blocks that a trace file may have
abbrev pub most_recorded : ℕ
most_recorded = 100000

-- the blocks that are recorded where none are asked for
abbrev pub default_recorded : ℕ
default_recorded = 10000

-- the greatest number of a block that may be drawn
abbrev pub most_drawn : ℕ
most_drawn = 3999999

-- the greatest number of a cycle: a run of most_count blocks makes at most 41,472 cycles for each
abbrev pub most_cycle : ℕ
most_cycle = 165888000000

-- how many bytes an image may have
unfoldable pub most_image_bytes : ℕ
most_image_bytes = 71303188

-- how many bytes a save file may have
unfoldable pub most_save_bytes : ℕ
most_save_bytes = 81000000

-- how many bytes a target text may have
unfoldable pub most_target_bytes : ℕ
most_target_bytes = 67108864

-- a byte from `0` to `9`
abbrev pub is_digit : ℕ → Bool
is_digit byte = nat_le 48 byte && nat_le byte 57

-- the word has one digit at least, and nothing else
abbrev pub is_number : List ℕ → Bool
is_number word = not (length word == 0) && list_all is_digit word

-- the value of digits behind those of a value
abbrev pub value_from : ℕ → List ℕ → ℕ
value_from value [] = value
value_from value (digit ∷ digits) = value_from (value * 10 + (digit - 48)) digits

-- the number, where it is at most the greatest
abbrev pub number_within : ℕ → List ℕ → Option ℕ
number_within most word =
    if is_number word && nat_le (value_from 0 word) most then Some (value_from 0 word) else None

-- the number, where it is from 1 to the greatest
abbrev pub number_to : ℕ → List ℕ → Option ℕ
number_to most word =
    if is_number word && (nat_le 1 (value_from 0 word) && nat_le (value_from 0 word) most)
    then Some (value_from 0 word) else None
