-- Tokens put behind others, one after another, as long as there is room.
use Rattle.std.specs.Prelude.{ℕ, nat_lt, if◌then◌else◌, List, [], ◌∷◌, ◌++◌, length, map, Result, Ok, Err}
use Rattle.c_tree.specs.declared.Form.{Form}
use Rattle.c_tree.specs.declared.Lexeme.{Lexeme}
use Rattle.c_library.specs.declared.fault.LibraryFault.{LibraryFault}
use Rattle.c_library.specs.declared.fault.LibraryFault.TheVariants as fault
use Rattle.c_library.specs.Within.{◌>>=◌}
use Rattle.c_lex.specs.Lexes.{Tokens}

-- one more
abbrev pub put : ℕ → Lexeme → Tokens → Result Tokens LibraryFault
put most t out = if nat_lt (length out) most then Ok (out ++ t ∷ []) else Err (fault.TooManyTokens t.offset)

-- each of these
abbrev pub put_all : ℕ → Tokens → Tokens → Result Tokens LibraryFault
put_all most [] out = Ok out
put_all most (t ∷ ts) out = put most t out >>= put_all most ts
