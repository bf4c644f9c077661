-- Where an evaluation is undefined, and which calls were open: by line and column in the text.
use Rattle.std.specs.Prelude.{ℕ, List, [], ◌∷◌, ◌++◌, Option, Some, None, codes, decimal}
use Rattle.c_lex.specs.Bytes.{line_of}
use Rattle.c_meaning_spec.specs.declared.fault.Fault.{Fault}
use Rattle.trips_messages.specs.Places.{column}
use Rattle.trips_eval_answers.specs.Faults.{sentence}

-- the line and the column of a byte of the text, counted from 1
abbrev pub place_text : List ℕ → ℕ → List ℕ
place_text text at = decimal (line_of text at) ++ (codes ":" ++ decimal (column text at))

-- the place of an expression, if one was not evaluated to its end
abbrev pub at_text : List ℕ → Option ℕ → List ℕ
at_text text None = []
at_text text (Some at) = codes " at " ++ place_text text at

-- the calls that were open, the innermost first
abbrev pub calls_text : List ℕ → List ℕ → List ℕ
calls_text text [] = []
calls_text text (at ∷ rest) = (codes ", called at " ++ place_text text at) ++ calls_text text rest

-- the line
abbrev pub undefined_line : List ℕ → Fault → Option ℕ → List ℕ → List ℕ
undefined_line text c at calls =
    codes "undefined" ++ (at_text text at ++ (codes ": " ++ (sentence c ++ calls_text text calls)))
