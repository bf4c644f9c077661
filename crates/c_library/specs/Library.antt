-- The unit with the functions of the library that it calls.
use Rattle.std.specs.Prelude.{ℕ, Bool, false, ◌&&◌, not, if◌then◌else◌, List, [], ◌∷◌, ◌++◌, Option, Some, None}
use Rattle.std.specs.Prelude.{Result}
use Rattle.c_tree.specs.declared.Form.{Form}
use Rattle.c_tree.specs.declared.Form.TheVariants as form
use Rattle.c_tree.specs.declared.Lexeme.{Lexeme}
use Rattle.c_tree.specs.declared.Mark.TheVariants as mark
use Rattle.c_lex.specs.Lexes.{Tokens}
use Rattle.c_library.specs.declared.fault.LibraryFault.{LibraryFault}
use Rattle.c_library.specs.declared.header.Header.{Header}
use Rattle.c_library.specs.declared.header.Header.TheVariants as header
use Rattle.c_library.specs.declared.walk.Awaits.{Awaits}
use Rattle.c_library.specs.declared.walk.Awaits.TheVariants as awaits
use Rattle.c_library.specs.declared.walk.Walk.{Walk}
use Rattle.c_library.specs.Calls.{Call, printf, is_mark, owns, format_of}
use Rattle.c_library.specs.Definitions.{Definitions, formats, with_rows}
use Rattle.c_library.specs.Formats.{printf_name}
use Rattle.c_library.specs.Headers.{header_of, same_header, has_seen}
use Rattle.c_library.specs.Places.{token, tokens}
use Rattle.c_library.specs.Table.{table}
use Rattle.c_library.specs.Walks.{start, call, past}
use Rattle.c_library.specs.Within.{◌>>=◌, within}

-- the definitions of a header, all at this place
abbrev pub defined_at : ℕ → Header → Definitions → Tokens
defined_at at h [] = []
defined_at at h (d ∷ ds) = defined_at at h ds ++ (if same_header d.header h then tokens at d.forms else [])

-- of a header's tokens that of `<stdio.h>` stays
abbrev pub header_kept : Header → Lexeme → Tokens
header_kept header.Stdio t = t ∷ []
header_kept _ t = []

-- `printf`, or the name of the function that prints by the format of a call
abbrev pub named : Option Call → Lexeme → Tokens
named None t = t ∷ []
named (Some c) t = token t.offset (form.Name (printf_name (format_of c.1))) ∷ []

-- a token that is no header's: of a call of `printf` by a literal the literal goes, and a `,` behind it
abbrev pub kept : Awaits → Option Call → Lexeme → Tokens
kept awaits.Nothing c t = named c t
kept awaits.Paren c t = t ∷ []
kept awaits.Literal c t = []
kept awaits.Comma c t = if is_mark mark.Comma t.form then [] else t ∷ []

-- what stands for a token, which is this header's or none: the definitions stand behind the first token of their
-- header
abbrev pub here : Definitions → Walk → Lexeme → Tokens → Option Header → Tokens
here ds w t ts None = kept w.awaits (call w t ts) t
here ds w t ts (Some h) = header_kept h t ++ (if has_seen h w.seen then [] else defined_at t.offset h ds)

-- tokens, with these definitions
abbrev pub placed : Definitions → Walk → Tokens → Tokens
placed ds w [] = []
placed ds w (t ∷ ts) = here ds w t ts (header_of t.form) ++ placed ds (past w t ts) ts

-- the unit with the definitions of formats, and with those of functions
abbrev pub with_formats : ℕ → Tokens → Definitions → Result Tokens LibraryFault
with_formats most ts ds = within most (placed (with_rows ts table ds) (start (owns printf 0 ts)) ts)

-- The tokens of a unit with the definitions that it needs, if these are few enough together.
abbrev pub with_library : ℕ → Tokens → Result Tokens LibraryFault
with_library most ts = formats (start (owns printf 0 ts)) ts [] >>= with_formats most ts
