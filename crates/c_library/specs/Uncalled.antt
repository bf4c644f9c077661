-- Units that call no library function.
use Rattle.std.specs.Prelude.{Bool, true, false, not, ◌&&◌, is_none, List, [], ◌∷◌, Option, Some, None}
use Rattle.c_tree.specs.declared.Lexeme.{Lexeme}
use Rattle.c_lex.specs.Lexes.{Tokens}
use Rattle.c_library.specs.declared.header.Header.{Header}
use Rattle.c_library.specs.declared.header.Header.TheVariants as header
use Rattle.c_library.specs.declared.walk.Walk.{Walk}
use Rattle.c_library.specs.Calls.{Call, printf, owns}
use Rattle.c_library.specs.Definitions.{Row, is_called}
use Rattle.c_library.specs.Headers.{header_of}
use Rattle.c_library.specs.Table.{table}
use Rattle.c_library.specs.Walks.{start, call, past}

-- is the token no header's, or that of `<stdio.h>`?
abbrev pub is_kept : Option Header → Bool
is_kept None = true
is_kept (Some header.Stdio) = true
is_kept (Some h) = false

-- does a token stay, that is this header's or none, and a call of `printf` by a literal or none?
abbrev pub stays : Option Header → Option Call → Bool
stays h c = is_kept h && is_none c

-- does each of these tokens?
abbrev pub all_stay : Walk → Tokens → Bool
all_stay w [] = true
all_stay w (t ∷ ts) = stays (header_of t.form) (call w t ts) && all_stay (past w t ts) ts

-- is the function of none of these rows called?
abbrev pub none_called : Tokens → List Row → Bool
none_called ts [] = true
none_called ts (r ∷ rs) = not (is_called ts r) && none_called ts rs

-- Does the unit call no function of the library that it does not have itself, and is none of its tokens a header's
-- but that of `<stdio.h>`?
abbrev pub calls_none : Tokens → Bool
calls_none ts = all_stay (start (owns printf 0 ts)) ts && none_called ts table
