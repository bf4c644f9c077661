-- Each phrase of a translation unit takes a token at least, but for those that may be nothing.
use Rattle.std.proofs.Common.{◌<◌, ◌≤◌, length, arith}
use Rattle.c_grammar.specs.Tokens.{Tokens, May}
use Rattle.c_grammar.specs.Statements as s
use Rattle.c_grammar.specs.Units.{Phrase, Units, shape, label, brackets, no_size, some_size, last_row}
use Rattle.c_grammar.specs.Units.{last_row_comma, next_row, rows_sized, rows_filled, two_brackets}
use Rattle.c_grammar.specs.Units.{last_value, last_comma, next_value, bare, valued, sized, filled}
use Rattle.c_grammar.specs.Units.{last_global, next_global, unlabelled, labelled, no_brackets}
use Rattle.c_grammar.specs.Units.{some_brackets, param_is, no_params, void_params, some_params}
use Rattle.c_grammar.specs.Units.{last_param, next_param, void, typed, prototype, definition, include}
use Rattle.c_grammar.specs.Units.{a_function, some_globals, last_item, next_item}
use Rattle.c_grammar.proofs.Types.{types_shorter}
use Rattle.c_grammar.proofs.Levels.{spells_shorter}
use Rattle.c_grammar.proofs.Begins.{writes_shorter}

-- what stands behind a name, a parameter's name and its brackets may be nothing
abbrev pub Takes : Phrase → Tokens → Tokens → Type 0
Takes (shape s) f t = length t ≤ length f
Takes (label l n) f t = length t ≤ length f
Takes (brackets a) f t = length t ≤ length f
Takes _ f t = length t < length f

-- each phrase of a unit takes a token at least; a shape, a label and brackets maybe none
pub units_shorter : {may : May} {p : Phrase} {f t : Tokens} → Units may p f t → Takes p f t
units_shorter no_size = omega arith
units_shorter (some_size x) = let h = spells_shorter x in omega arith
units_shorter (last_value x) = let h = spells_shorter x in omega arith
units_shorter (last_comma x) = let h = spells_shorter x in omega arith
units_shorter (next_value x y) = let h = spells_shorter x in let i = units_shorter y in omega arith
units_shorter (last_row x) = let h = units_shorter x in omega arith
units_shorter (last_row_comma x) = let h = units_shorter x in omega arith
units_shorter (next_row x y) = let h = units_shorter x in let i = units_shorter y in omega arith
units_shorter bare = omega arith
units_shorter (valued x) = let h = spells_shorter x in omega arith
units_shorter (sized x) = let h = units_shorter x in omega arith
units_shorter (filled x y) = let h = units_shorter x in let i = units_shorter y in omega arith
units_shorter (rows_sized x y) = let h = units_shorter x in let i = spells_shorter y in omega arith
units_shorter (rows_filled x y z) =
    let h = units_shorter x in let i = spells_shorter y in let j = units_shorter z in omega arith
units_shorter (last_global x) = let h = units_shorter x in omega arith
units_shorter (next_global x y) = let h = units_shorter x in let i = units_shorter y in omega arith
units_shorter unlabelled = omega arith
units_shorter labelled = omega arith
units_shorter no_brackets = omega arith
units_shorter (some_brackets x) = let h = units_shorter x in omega arith
units_shorter (two_brackets x y) = let h = units_shorter x in let i = spells_shorter y in omega arith
units_shorter (param_is x y z) =
    let h = types_shorter x in let i = units_shorter y in let j = units_shorter z in omega arith
units_shorter no_params = omega arith
units_shorter void_params = omega arith
units_shorter (some_params x) = units_shorter x
units_shorter (last_param x) = let h = units_shorter x in omega arith
units_shorter (next_param x y) = let h = units_shorter x in let i = units_shorter y in omega arith
units_shorter void = omega arith
units_shorter (typed x) = types_shorter x
units_shorter (prototype x) = let h = units_shorter x in omega arith
units_shorter (definition x y) = let h = units_shorter x in let i = writes_shorter y in omega arith
units_shorter include = omega arith
units_shorter (a_function x y) = let h = units_shorter x in let i = units_shorter y in omega arith
units_shorter (some_globals x y) = let h = types_shorter x in let i = units_shorter y in omega arith
units_shorter (last_item x) = units_shorter x
units_shorter (next_item x y) = let h = units_shorter x in let i = units_shorter y in omega arith
