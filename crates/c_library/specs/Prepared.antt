-- The tokens of a program behind its literals and its calls of the library.
use Rattle.std.specs.Prelude.{ℕ, Bool, ◌&&◌, Result}
use Rattle.c_lex.specs.Lexes.{Tokens}
use Rattle.c_library.specs.declared.fault.LibraryFault.{LibraryFault}
use Rattle.c_library.specs.Arrays.{with_strings}
use Rattle.c_library.specs.Joined.{joined}
use Rattle.c_library.specs.Library.{with_library}
use Rattle.c_library.specs.Literals.{has_no_literal}
use Rattle.c_library.specs.Uncalled.{calls_none}
use Rattle.c_library.specs.Within.{◌>>=◌}

-- are there no literals, no calls of the library and none of its headers but `<stdio.h>`?
abbrev pub is_prepared : Tokens → Bool
is_prepared ts = has_no_literal ts && calls_none ts

-- Literals side by side are one, what the unit calls of the library is defined in it, and the literals that are left
-- are lists in braces and arrays.
abbrev pub prepared : ℕ → Tokens → Result Tokens LibraryFault
prepared most ts = with_library most (joined ts) >>= with_strings most
