-- What is known of units behind their literals and their calls of the library.
use Rattle.std.proofs.Common.{◌≡◌, ◌≤◌, ℕ, true, List, length, refl, ap, subst, sym, ◌∙◌}
use Rattle.std.specs.Prelude.{◌&&◌, Result, Ok, Err}
use Rattle.c_lex.specs.Lexes.{Tokens}
use Rattle.c_library.specs.declared.fault.LibraryFault.{LibraryFault}
use Rattle.c_library.specs.Arrays.{with_strings}
use Rattle.c_library.specs.Joined.{joined}
use Rattle.c_library.specs.Library.{with_library}
use Rattle.c_library.specs.Literals.{has_no_literal}
use Rattle.c_library.specs.Prepared.{prepared, is_prepared}
use Rattle.c_library.specs.Uncalled.{calls_none}
use Rattle.c_library.specs.Within.{◌>>=◌, within}
use Rattle.c_library.proofs.Holds.{Fact, EachToken, Allows}
use Rattle.c_library.proofs.JoinedLiterals.{joined_stays, joined_keeps}
use Rattle.c_library.proofs.KeptFormats.{formats_kept}
use Rattle.c_library.proofs.KeptLibrary.{library_keeps}
use Rattle.c_library.proofs.LiteralForms.{both_hold}
use Rattle.c_library.proofs.Puts.{few_stay}
use Rattle.c_library.proofs.StringFacts.{strings_stay, strings_keep, strings_few}
use Rattle.c_library.proofs.Unchanged.{library_stays}

-- a unit without literals and calls of the library is its own
pub prepared_stays : (most : ℕ) (ts : Tokens) → is_prepared ts ≡ true → length ts ≤ most → prepared most ts ≡ Ok ts
prepared_stays most ts e few =
    let both = both_hold (has_no_literal ts) (calls_none ts) e in
    ap (λ (us : Tokens). with_library most us >>= with_strings most) (joined_stays ts both.0)
    ∙ ap (λ (m : Result Tokens LibraryFault). m >>= with_strings most)
    (library_stays most ts both.1 ∙ few_stay most ts few)
    ∙ strings_stay most ts both.0 few

-- the unit with the library, of which what is prepared is without literals
record Stages (most : ℕ) (ts us : Tokens) : Type 0 where
  unit : Tokens
  serves : with_library most (joined ts) ≡ Ok unit
  strings : with_strings most unit ≡ Ok us

stages_by : (most : ℕ) (ts us : Tokens) (m : Result Tokens LibraryFault) → with_library most (joined ts) ≡ m
    → (m >>= with_strings most) ≡ Ok us → Stages most ts us
stages_by most ts us (Ok unit) e h = record { unit = unit; serves = e; strings = h }
stages_by most ts us (Err f) e h = absurd (cc)

stages : (most : ℕ) (ts us : Tokens) → prepared most ts ≡ Ok us → Stages most ts us
stages most ts us e = stages_by most ts us (with_library most (joined ts)) refl e

-- what holds of all tokens and of all that may be added holds of the prepared ones
pub prepared_keeps : (P : Fact) (most : ℕ) (ts us : Tokens) → Allows P → EachToken P ts → prepared most ts ≡ Ok us
    → EachToken P us
prepared_keeps P most ts us a h e =
    let s = stages most ts us e in
    strings_keep P most s.unit us a
    (library_keeps P most (joined ts) s.unit a (formats_kept P a) (joined_keeps P ts a h) s.serves) s.strings

-- and these are as few as there may be
pub prepared_few : (most : ℕ) (ts us : Tokens) → prepared most ts ≡ Ok us → length us ≤ most
prepared_few most ts us e = let s = stages most ts us e in strings_few most s.unit us s.strings
