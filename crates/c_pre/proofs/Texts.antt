-- What is known of the tokens of a text.
use Rattle.std.proofs.Common.{◌≡◌, ◌↔◌, ◌≤◌, ℕ, true, length, ap, sym, subst, ◌∙◌}
use Rattle.std.specs.Prelude.{Ok}
use Rattle.c_lex.specs.Bytes.{Bytes}
use Rattle.c_lex.specs.Lexes as raw
use Rattle.c_lex.proofs.Once.{lexes_once}
use Rattle.c_pre.specs.Plain.{is_plain}
use Rattle.c_pre.specs.Programs.{program}
use Rattle.c_pre.specs.Texts.{Tokens, Lexed}
use Rattle.c_pre.proofs.KeptPrograms.{program_few}
use Rattle.c_pre.proofs.Plain.{plain_stays}

-- a text has few tokens
pub lexed_few : (most : ℕ) (text : Bytes) (tokens : Tokens) → Lexed most text tokens → length tokens ≤ most
lexed_few most text tokens h = program_few most h.0 tokens h.2

-- a text has one list of tokens
pub lexed_once : (most : ℕ) (text : Bytes) (ts us : Tokens) → Lexed most text ts → Lexed most text us → ts ≡ us
lexed_once most text ts us a b =
    let same : a.0 ≡ b.0 = lexes_once text a.0 b.0 a.1.0 b.1.0 in
    let is : Ok ts ≡ Ok us = sym a.2 ∙ ap (program most) same ∙ b.2 in
    cc

-- a plain text has its raw tokens
plain_lexed : (most : ℕ) (text : Bytes) (plain : Tokens) → raw.Lexed most text plain → is_plain plain ≡ true
    → Lexed most text plain
plain_lexed most text plain l p = (plain, l, plain_stays most plain p l.1)

-- and no others
pub plain_texts : (most : ℕ) (text : Bytes) (plain tokens : Tokens) → raw.Lexed most text plain
    → is_plain plain ≡ true → (Lexed most text tokens ↔ (tokens ≡ plain))
plain_texts most text plain tokens l p = (
  λ h. lexed_once most text tokens plain h (plain_lexed most text plain l p),
  λ e. subst (λ (ts : Tokens). Lexed most text ts) (sym e) (plain_lexed most text plain l p),
)
