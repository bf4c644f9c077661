-- What there is behind a name that a `typedef` declares.
use Rattle.std.specs.Prelude.{if◌then◌else◌, [], ◌∷◌, Some, None}
use Rattle.c_tree.specs.declared.Form.{Form}
use Rattle.c_tree.specs.declared.Mark.TheVariants as mark
use Rattle.c_lex.specs.Lexes.{Tokens}
use Rattle.c_library.specs.Calls.{is_mark}
use Rattle.c_names.specs.Enums.{Taken, names_from}
use Rattle.c_names.specs.Pieces.{Pieces}
use Rattle.c_names.specs.Scope.{Scope}

-- behind the last one, which a `;` ends
abbrev pub names_end : Scope → Form → Tokens → Taken
names_end es m ts = if is_mark mark.Semicolon m then Some (es, ts) else None

-- behind one, where a `,` goes on
abbrev pub names_past : Scope → Pieces → Form → Tokens → Taken
names_past es ws m ts = if is_mark mark.Comma m then names_from es ws ts else names_end es m ts

-- behind a name, at the punctuator that follows it
abbrev pub marks_from : Scope → Pieces → Tokens → Taken
marks_from es ws [] = None
marks_from es ws (m ∷ ts) = names_past es ws m.form ts
