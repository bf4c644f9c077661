-- What is told of how an evaluation ended, under the name of its file: of one that stopped also where, with the line of
-- the text, which calls were open, and the output so far. Own.
use Rattle.std.specs.Prelude.{ℕ, Bool, false, nat_eq, nat_le, nat_lt, if◌then◌else◌, List, [], ◌∷◌, ◌++◌, length}
use Rattle.std.specs.Prelude.{take, drop, Option, Some, None, codes, decimal}
use Rattle.std.specs.List.{flat_map}
use Rattle.c_lex.specs.Bytes.{line_of}
use Rattle.trips_messages.specs.Places.{line_length, front, column}
use Rattle.trips_messages.specs.Words.{word_length}
use Rattle.trips_messages.specs.Messages.{marked}

-- a place: the file, the line and the column
abbrev pub place_by : List ℕ → ℕ → ℕ → List ℕ
place_by file line at = file ++ (codes ":" ++ (decimal line ++ (codes ":" ++ decimal at)))

-- the place of a byte of a text
abbrev pub place : List ℕ → List ℕ → ℕ → List ℕ
place file text o = place_by file (line_of text o) (column text o)

-- the line of a byte, and below it a mark under the byte
abbrev pub line_told : List ℕ → ℕ → List ℕ
line_told text o = let rest = drop o text in marked (front text o) (take (line_length rest) rest)

-- the same, where there is a place
abbrev pub line_at : List ℕ → Option ℕ → List ℕ
line_at text None = []
line_at text (Some o) = line_told text o

-- of definitions at these offsets the last one that stands at or before an offset, else the one that was found
abbrev pub around_from : Option ℕ → ℕ → List ℕ → Option ℕ
around_from found o [] = found
around_from found o (d ∷ ds) = around_from (if nat_le d o then Some d else found) o ds

-- the definition that an offset lies in: the last one that stands at or before it
abbrev pub around : ℕ → List ℕ → Option ℕ
around o definitions = around_from None o definitions

-- the word at the front of what is left of a text: a name, a number, or one byte
abbrev pub first_word : List ℕ → List ℕ
first_word rest = take (word_length rest) rest

-- does an include stand here? The functions of the library are defined at that of their header.
abbrev pub is_include : List ℕ → Bool
is_include [] = false
is_include (b ∷ bs) = nat_eq b 35

-- the function whose definition stands here
abbrev pub function_named : List ℕ → List ℕ
function_named rest = if is_include rest then codes "the library" else first_word rest

-- in which function a call stands, if it stands in one
abbrev pub in_function : List ℕ → Option ℕ → List ℕ
in_function text None = []
in_function text (Some d) = codes " in " ++ function_named (drop d text)

-- an open call, of a text with these definitions
abbrev pub call_told : List ℕ → List ℕ → List ℕ → ℕ → List ℕ
call_told file text definitions o =
    codes "called" ++ (in_function text (around o definitions) ++ (codes " at " ++ (place file text o ++ codes "\n")))

-- so many open calls are told at most
abbrev pub most_calls : ℕ
most_calls = 20

-- that there may be more open calls
abbrev pub more_calls : ℕ → List ℕ
more_calls told = if nat_lt told most_calls then [] else codes "..\n"

-- the open calls, the innermost first
abbrev pub calls_told : List ℕ → List ℕ → List ℕ → List ℕ → List ℕ
calls_told file text definitions calls =
    flat_map (call_told file text definitions) calls ++ more_calls (length calls)

-- the output so far, and before it how many bytes it has
abbrev pub output_told : List ℕ → List ℕ
output_told output = codes "output: " ++ (decimal (length output) ++ (codes " bytes\n" ++ output))

-- how an evaluation is done, and in how many steps
abbrev pub done_head : List ℕ → ℕ → List ℕ
done_head ending steps = ending ++ (codes " in " ++ (decimal steps ++ codes " steps\n"))

-- of an evaluation that is done, with the line of its ending
abbrev pub done_told : List ℕ → ℕ → List ℕ → List ℕ
done_told ending steps output = done_head ending steps ++ output_told output

-- where an evaluation stopped, if it did so in an expression, the open calls, and the output so far
abbrev pub stopped_told : List ℕ → List ℕ → List ℕ → Option ℕ → List ℕ → List ℕ → List ℕ
stopped_told file text definitions at calls output =
    line_at text at ++ (calls_told file text definitions calls ++ output_told output)

-- the first line of one that is undefined, with its reason
abbrev pub undefined_head : List ℕ → List ℕ → List ℕ → Option ℕ → List ℕ
undefined_head file text reason None = file ++ (codes ": " ++ (reason ++ codes "\n"))
undefined_head file text reason (Some o) = place file text o ++ (codes ": " ++ (reason ++ codes "\n"))

-- of an evaluation that is undefined
abbrev pub undefined_told : List ℕ → List ℕ → List ℕ → List ℕ → Option ℕ → List ℕ → List ℕ → List ℕ
undefined_told file text definitions reason at calls output =
    undefined_head file text reason at ++ stopped_told file text definitions at calls output

-- the first line of one that is not done
abbrev pub halted_head : List ℕ → List ℕ → List ℕ → Option ℕ → List ℕ
halted_head file text reason None = reason ++ codes "\n"
halted_head file text reason (Some o) = reason ++ (codes ", at " ++ (place file text o ++ codes "\n"))

-- of an evaluation that is not done
abbrev pub halted_told : List ℕ → List ℕ → List ℕ → List ℕ → Option ℕ → List ℕ → List ℕ → List ℕ
halted_told file text definitions reason at calls output =
    halted_head file text reason at ++ stopped_told file text definitions at calls output

-- why it is not done: no step is left
abbrev pub not_done : ℕ → List ℕ
not_done steps = codes "not done after " ++ (decimal steps ++ codes " steps")

-- or the frames of the active functions are too large
abbrev pub too_deep : List ℕ
too_deep = codes "the frames are too deep"
