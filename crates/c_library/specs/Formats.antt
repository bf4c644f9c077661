-- The function that a format of `printf` stands for (C17 7.21.6.1), in tokens: its parameters are the arguments, and
-- it gives the sum of what the library's functions give for its pieces of text and its conversions.
use Rattle.std.specs.Prelude.{◌+◌, true, false, if◌then◌else◌, nat_lt, List, [], ◌∷◌, ◌++◌, codes, Option, Some, None}
use Rattle.c_tree.specs.declared.Form.{Form}
use Rattle.c_tree.specs.declared.Form.TheVariants as form
use Rattle.c_tree.specs.declared.Key.TheVariants as key
use Rattle.c_tree.specs.declared.Mark.TheVariants as mark
use Rattle.c_lex.specs.Bytes.{Bytes}
use Rattle.c_library.specs.Terms.{constant, call, call_of, parameter, with_part, string_name}
use Rattle.c_library.specs.Reading.{items_of}
use Rattle.c_library.specs.declared.conversion.Conversion.{Conversion}
use Rattle.c_library.specs.declared.reading.Item.{Item}
use Rattle.c_library.specs.declared.reading.Item.TheVariants as item
use Rattle.c_library.specs.declared.format.Writer.{Writer}

-- the name of the function of a format, which no word of a text is
abbrev pub printf_name : Bytes → Bytes
printf_name format = codes "printf" ++ string_name format

-- the terms with one that writes a piece of text, if there is one: a character, or a string
abbrev pub with_text : Bytes → List Form → List Form
with_text [] terms = terms
with_text (b ∷ []) terms = with_part mark.Plus terms (call (codes "print.c") (constant b) [])
with_text (b ∷ c ∷ bs) terms =
    with_part mark.Plus terms (call (codes "print.s") (form.Name (string_name (b ∷ c ∷ bs))) [])

-- the text so far becomes a term
abbrev pub with_piece : Writer → Writer
with_piece w = record w { piece = []; terms = with_text w.piece w.terms }

-- a conversion becomes a parameter and a term
abbrev pub with_conversion : Conversion → Writer → Writer
with_conversion c w = record w {
  count = w.count + 1;
  parameters = with_part mark.Comma w.parameters (parameter w.count c);
  terms = with_part mark.Plus w.terms (call_of w.count c);
}

-- An item more. A function has at most 8 parameters, so a ninth conversion is too much.
abbrev pub with_item : Item → Writer → Writer
with_item (item.Byte b) w = record w { piece = w.piece ++ b ∷ [] }
with_item (item.Conversion c) w =
    if nat_lt w.count 8 then with_conversion c (with_piece w) else record w { too_many = true }

-- these items more, and the end of the format
abbrev pub with_items : List Item → Writer → Writer
with_items [] w = with_piece w
with_items (i ∷ is) w = with_items is (with_item i w)

-- nothing yet
abbrev pub start : Writer
start = record { piece = []; count = 0; too_many = false; parameters = []; terms = [] }

-- the parameters of a function, `void` where there are none (6.7.6.3, paragraph 10)
abbrev pub or_void : List Form → List Form
or_void [] = form.Key key.Void ∷ []
or_void (f ∷ fs) = f ∷ fs

-- the sum of the terms, 0 where there are none
abbrev pub or_zero : List Form → List Form
or_zero [] = constant 0 ∷ []
or_zero (f ∷ fs) = f ∷ fs

-- `int NAME ( parameters ) { return terms ; }`
abbrev pub function_of : Bytes → List Form → List Form → List Form
function_of name parameters terms =
    form.Key key.Int ∷ form.Name name ∷ form.Mark mark.LeftParen
    ∷ or_void parameters ++ form.Mark mark.RightParen ∷ form.Mark mark.LeftBrace ∷ form.Key key.Return
    ∷ or_zero terms ++ form.Mark mark.Semicolon ∷ form.Mark mark.RightBrace ∷ []

-- the function of a format, where its conversions are not too many
abbrev pub finished : Bytes → Writer → Option (List Form)
finished format w = if w.too_many then None else Some (function_of (printf_name format) w.parameters w.terms)

-- the function of a format with these items, if it is one
abbrev pub definition_by : Bytes → Option (List Item) → Option (List Form)
definition_by format None = None
definition_by format (Some is) = finished format (with_items is start)

-- The definition of the function that a format stands for, if it is a format of the profile.
unfoldable pub printf_definition : Bytes → Option (List Form)
printf_definition format = definition_by format (items_of format)
