-- What is known of units with constants for sizes.
use Rattle.std.proofs.Common.{◌≡◌, ◌≤◌, ℕ, Bool, true, false, cond, [], ◌∷◌, ◌++◌, length, refl, sym}
use Rattle.std.proofs.Common.{ap, ◌∙◌}
use Rattle.std.specs.Prelude.{not, Ok}
use Rattle.c_lex.specs.Lexes.{Tokens}
use Rattle.c_library.specs.Within.{within}
use Rattle.c_library.proofs.Holds.{Fact, EachToken, Allows}
use Rattle.c_library.proofs.LiteralForms.{both_hold}
use Rattle.c_library.proofs.Puts.{few_stay}
use Rattle.c_sizes.specs.declared.walk.Walk.{Walk}
use Rattle.c_sizes.specs.Operands.{is_sizeof, told}
use Rattle.c_sizes.specs.Sized.{Sized, unsized, counted, stands_for, left_out, sized_from, sized, is_sized}
use Rattle.c_sizes.specs.Walks.{start, past}
use Rattle.c_sizes.proofs.KeptSizes.{from_keeps, starts}

not_told : (b : Bool) (x : Sized) → not b ≡ true → cond b x unsized ≡ unsized
not_told true x e = absurd (cc)
not_told false x e = refl

all_stay : (w : Walk) (ts : Tokens) → is_sized ts ≡ true → sized_from w 0 ts ≡ ts
all_stay w [] e = refl
all_stay w (t ∷ ts) e =
    let both = both_hold (not (is_sizeof t.form)) (is_sized ts) e in
    ap (λ (x : Sized). stands_for t x.0 ++ sized_from (past t.form ts w) (left_out x) ts)
    (not_told (is_sizeof t.form) (counted ts (told w.known ts)) both.0)
    ∙ ap (λ (us : Tokens). t ∷ us) (all_stay (past t.form ts w) ts both.1)

-- a unit without `sizeof` is its own
pub sized_stays : (ts : Tokens) → is_sized ts ≡ true → sized ts ≡ ts
sized_stays ts e = all_stay start ts e

-- and it is, if it is small enough
pub sized_within : (most : ℕ) (ts : Tokens) → is_sized ts ≡ true → length ts ≤ most → within most (sized ts) ≡ Ok ts
sized_within most ts e few = ap (λ (us : Tokens). within most us) (sized_stays ts e) ∙ few_stay most ts few

-- so what a test tells of the same tokens
pub sized_early : (most : ℕ) (ts us : Tokens) (b : Bool) → us ≡ ts → b ≡ is_sized us → b ≡ true → length ts ≤ most
    → within most (sized ts) ≡ Ok ts
sized_early most ts us b h g e few = sized_within most ts (ap is_sized (sym h) ∙ sym g ∙ e) few

-- what holds of all tokens and of all that may be added holds of the unit's with constants for sizes
pub sized_keeps : (P : Fact) (ts : Tokens) → Allows P → EachToken P ts → EachToken P (sized ts)
sized_keeps P ts a h = from_keeps P start 0 ts a (starts P) h
