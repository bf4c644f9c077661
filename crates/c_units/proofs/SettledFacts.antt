-- What is known of units whose declarations are settled.
use Rattle.std.proofs.Common.{◌≡◌, ◌≤◌, ℕ, zero, suc, Bool, true, false, cond, List, [], ◌∷◌, length, drop, refl, sym}
use Rattle.std.proofs.Common.{ap, ◌∙◌}
use Rattle.std.proofs.Common.{Option, Some, None}
use Rattle.std.specs.Prelude.{Ok, Err, slice_get}
use Rattle.c_tree.specs.declared.Lexeme.{Lexeme}
use Rattle.c_lex.specs.Lexes.{Tokens}
use Rattle.c_library.specs.declared.fault.LibraryFault.{LibraryFault}
use Rattle.c_library.specs.declared.fault.LibraryFault.TheVariants as fault
use Rattle.c_library.specs.Within.{within, unless_more}
use Rattle.c_library.proofs.Holds.{Fact, EachToken, Allows}
use Rattle.c_units.specs.Designators.{plain}
use Rattle.c_units.specs.Joined.{joined}
use Rattle.c_units.specs.Raised.{raised}
use Rattle.c_units.specs.Settled.{is_settled, settled}
use Rattle.c_units.proofs.KeptObjects.{either}
use Rattle.c_units.proofs.KeptLists.{plain_keeps}
use Rattle.c_units.proofs.KeptRaised.{raised_keeps}
use Rattle.c_units.proofs.KeptUnits.{joined_keeps}

-- a unit in which nothing is to settle is its own
pub settled_stays : (ts : Tokens) → is_settled ts ≡ true → settled ts ≡ ts
settled_stays ts e = ap (λ (b : Bool). cond b ts (joined (raised (plain ts)))) e

-- what holds of all tokens and of all that may be added holds of each that comes out
pub settled_keeps : (P : Fact) (ts : Tokens) → Allows P → EachToken P ts → EachToken P (settled ts)
settled_keeps P ts a h =
    either P (is_settled ts) ts (joined (raised (plain ts))) h
    (joined_keeps P (raised (plain ts)) a (raised_keeps P (plain ts) a (plain_keeps P ts a h)))

none_behind : (n : ℕ) (ts all : Tokens) → None ≡ slice_get ts n → unless_more all (drop n ts) ≡ Ok all
none_behind zero [] all e = refl
none_behind (suc n) [] all e = refl
none_behind zero (t ∷ ts) all e = absurd (cc)
none_behind (suc n) (t ∷ ts) all e = none_behind n ts all e

-- where no token has the number of the first too many, there are few
pub few : (most : ℕ) (ts us : Tokens) → None ≡ slice_get ts most → us ≡ ts → within most ts ≡ Ok us
few most ts us e h = none_behind most ts ts e ∙ ap (λ (xs : Tokens). Ok xs) (sym h)

first_behind : (n : ℕ) (ts all : Tokens) (t : Lexeme) → Some t ≡ slice_get ts n
    → unless_more all (drop n ts) ≡ Err (fault.TooManyTokens t.offset)
first_behind zero [] all t e = absurd (cc)
first_behind (suc n) [] all t e = absurd (cc)
first_behind zero (x ∷ ts) all t e = cc
first_behind (suc n) (x ∷ ts) all t e = first_behind n ts all t e

-- and where one has it, that one is too many
pub many : (most : ℕ) (ts : Tokens) (t : Lexeme) → Some t ≡ slice_get ts most
    → within most ts ≡ Err (fault.TooManyTokens t.offset)
many most ts t e = first_behind most ts ts t e
