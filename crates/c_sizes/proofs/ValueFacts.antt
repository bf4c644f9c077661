-- What an expression comes to with some levels, by what its operands come to with one less.
use Rattle.std.proofs.Common.{◌≡◌, ◌≢◌, ◌<◌, ℕ, zero, suc, ◌-◌, Bool, true, false, cond, Option, None, refl, sym, ap}
use Rattle.std.proofs.Common.{◌∙◌, arith}
use Rattle.c_lex.specs.Lexes.{Tokens}
use Rattle.c_sizes.specs.declared.cut.Rule.{Rule}
use Rattle.c_sizes.specs.declared.known.Known.{Known}
use Rattle.c_sizes.specs.declared.outcome.Outcome.{Outcome}
use Rattle.c_sizes.specs.Cuts.{Cut, cut}
use Rattle.c_sizes.specs.Values.{atom, joined, is_alone, value}

by_true : (b : Bool) (x y : Option Outcome) → b ≡ true → cond b x y ≡ x
by_true true x y e = refl
by_true false x y e = absurd (cc)

by_false : (b : Bool) (x y : Option Outcome) → b ≡ false → cond b x y ≡ y
by_false true x y e = absurd (cc)
by_false false x y e = refl

-- an expression that is cut so
abbrev cut_at : ℕ → Known → Tokens → Cut → Option Outcome
cut_at n k ts c =
    cond (is_alone c.0) (atom k ts) (joined c.0 (value n k c.1.0) (value n k c.1.1.0) (value n k c.1.1.1))

-- where no level is left, nothing is known
pub at_zero : (n : ℕ) (k : Known) (ts : Tokens) → n ≡ 0 → value n k ts ≡ None
at_zero zero k ts e = refl
at_zero (suc n) k ts e = absurd (omega arith)

-- that of a constant, an object or a call
pub atom_is : (n : ℕ) (k : Known) (ts x y z : Tokens) (r : Rule) → n ≢ 0 → (r, (x, (y, z))) ≡ cut ts
    → is_alone r ≡ true → value n k ts ≡ atom k ts
atom_is zero k ts x y z r h e g = absurd (h refl)
atom_is (suc n) k ts x y z r h e g =
    ap (λ (c : Cut). cut_at n k ts c) (sym e)
    ∙ by_true (is_alone r) (atom k ts) (joined r (value n k x) (value n k y) (value n k z)) g

-- that by a rule
pub joined_is : (n : ℕ) (k : Known) (ts x y z : Tokens) (r : Rule) → 0 < n → (r, (x, (y, z))) ≡ cut ts
    → is_alone r ≡ false → value n k ts ≡ joined r (value (n - 1) k x) (value (n - 1) k y) (value (n - 1) k z)
joined_is zero k ts x y z r h e g = absurd (omega arith)
joined_is (suc n) k ts x y z r h e g =
    let less : n ≡ suc n - 1 = omega arith in
    ap (λ (c : Cut). cut_at n k ts c) (sym e)
    ∙ (by_false (is_alone r) (atom k ts) (joined r (value n k x) (value n k y) (value n k z)) g
    ∙ ap (λ (m : ℕ). joined r (value m k x) (value m k y) (value m k z)) less)
