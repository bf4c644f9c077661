-- Which tokens a text has behind its directives and macros (C17 5.1.1.2, phases 3 and 4).
use Rattle.std.specs.Prelude.{◌≡◌, ℕ, Ok}
use Rattle.c_lex.specs.Bytes.{Bytes}
use Rattle.c_lex.specs.Lexes as raw
pub use Rattle.c_lex.specs.Lexes.{Tokens}
use Rattle.c_pre.specs.Programs.{program}

-- the text's raw tokens, of which there are few enough, come to these, with so many turns at most
abbrev pub Lexed : ℕ → Bytes → Tokens → Type 0
Lexed most text ts = (tokens : Tokens) × raw.Lexed most text tokens × (program most tokens ≡ Ok ts)
