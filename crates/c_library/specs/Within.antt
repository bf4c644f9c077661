-- Tokens, as many as there may be.
use Rattle.std.specs.Prelude.{ℕ, [], ◌∷◌, drop, Result, Ok, Err}
use Rattle.c_library.specs.declared.fault.LibraryFault.{LibraryFault}
use Rattle.c_library.specs.declared.fault.LibraryFault.TheVariants as fault
use Rattle.c_lex.specs.Lexes.{Tokens}

infixl 10 ◌>>=◌
-- goes on with what there is, or stops at the fault
abbrev pub ◌>>=◌ : {A B : Type 0} → Result A LibraryFault → (A → Result B LibraryFault) → Result B LibraryFault
(Ok x) >>= f = f x
(Err e) >>= f = Err e

-- the tokens, unless further ones stand behind those that there may be
abbrev pub unless_more : Tokens → Tokens → Result Tokens LibraryFault
unless_more ts [] = Ok ts
unless_more ts (t ∷ behind) = Err (fault.TooManyTokens t.offset)

-- The tokens, if they are few enough; else the first one that is too many is at fault.
abbrev pub within : ℕ → Tokens → Result Tokens LibraryFault
within most ts = unless_more ts (drop most ts)
