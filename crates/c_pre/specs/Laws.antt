-- What holds of the tokens of all texts.
use Rattle.std.specs.Prelude.{◌≡◌, ◌↔◌, ◌≤◌, ℕ, true, length}
use Rattle.c_lex.specs.Bytes.{Bytes}
use Rattle.c_lex.specs.Lexes as raw
use Rattle.c_pre.specs.Plain.{is_plain}
use Rattle.c_pre.specs.Texts.{Tokens, Lexed}

-- a text whose raw tokens have no directive, no header but `<stdio.h>` and nothing that a pass would change has these
-- tokens, and no others
abbrev pub PlainTextsStay : Type 0
PlainTextsStay =
    (most : ℕ) (text : Bytes) (plain tokens : Tokens) → raw.Lexed most text plain → is_plain plain ≡ true
    → (Lexed most text tokens ↔ (tokens ≡ plain))

-- a text has at most as many tokens as there may be, also behind macros that double
abbrev pub TextsAreShort : Type 0
TextsAreShort = (most : ℕ) (text : Bytes) (tokens : Tokens) → Lexed most text tokens → length tokens ≤ most
