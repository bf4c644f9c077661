-- A shift by the exponent of a power of two divides and multiplies by it, and its mask leaves the remainder.
use Rattle.std.proofs.Common.{◌≡◌, ℕ, zero, suc, ◌+◌, ◌-◌, ◌*◌, ◌/◌, ◌%◌, ◌^◌, ◌<◌, ◌≤◌, Bool, true, false}
use Rattle.std.proofs.Common.{cond, List, Option, Some, None, refl, sym, ap, ◌∙◌, subst, arith}
use Rattle.std.specs.Prelude.{nat_eq, nat_le, bit_and}
use Rattle.std.proofs.lemmas.Bool.Decides.{nat_tests}
use Rattle.std.proofs.lemmas.Nat.{and_mask}
use Rattle.std.proofs.Math.Nat.{pow-suc, pow-le-pow_right}
use Rattle.c_tree.specs.declared.Kind.{Kind}
use Rattle.c_tree.specs.declared.Kind.TheVariants.{Char, UChar, Short, UShort, Int, UInt, Long, ULong}
use Rattle.c_tree.specs.declared.Kind.TheVariants as kind
use Rattle.c_tree.specs.declared.BinaryOp.TheVariants.{Divide, Remainder}
use Rattle.c_constant.specs.Kinds.{is_signed, IsWord}
use Rattle.c_constant.specs.Operation.{operate}
use Rattle.trips_isa.specs.declared.op.Op.TheVariants as op
use Rattle.ir_forms.specs.declared.flat.Arg.TheVariants.{Const, Var}
use Rattle.ir_forms.specs.inside.FlatCode.{Function}
use Rattle.ir_forms.specs.inside.Cells.{apply}
use Rattle.ir_forms.specs.inside.FlatSteps.{State, Env}
use Rattle.ir_forms.specs.inside.FlatRuns.{checked}
use Rattle.flat_lower.specs.inside.Kinds.{IsArithmetic}
use Rattle.flat_lower.specs.inside.Powers.{exponent_from, exponent_of, scaled_by}
use Rattle.flat_lower.proofs.Operators.{Gives}
use Rattle.flat_lower.proofs.Quotients.{divide_gives, remainder_gives, unsigned_quotient}
use Rattle.flat_lower.proofs.Quotients.{unsigned_remainder}
use Rattle.flat_lower.proofs.Straight.{Puts, puts_let, puts_as, var_read}

-- EXPONENTS

-- w is 2^n, and n counts a shift
pub record ExponentIs (n w : ℕ) : Type 0 where
  pub is : 2 ^ n ≡ w
  pub below : n < 64

exponent_step : (b c : Bool) (n p w m : ℕ) (rest : Option ℕ) → nat_eq p w ≡ b → 2 ^ n ≡ p → n < 64
    → (rest ≡ Some m → ExponentIs m w) → cond b (Some n) (cond c rest None) ≡ Some m → ExponentIs m w
exponent_step true c n p w m rest t e l go h =
    let s : p ≡ w = grind (arith, nat_tests) in
    let k : n ≡ m = cc h in
    subst (λ m. ExponentIs m w) k (record { is = e ∙ s; below = l })
exponent_step false true n p w m rest t e l go h = go h
exponent_step false false n p w m rest t e l go h = absurd (cc h)

exponent_found : (left n p w m : ℕ) → n + left ≤ 64 → 2 ^ n ≡ p → exponent_from left n p w ≡ Some m → ExponentIs m w
exponent_found zero n p w m l e h = absurd (cc h)
exponent_found (suc left) n p w m l e h =
    let twice : 2 ^ suc n ≡ p + p = pow-suc 2 n ∙ ap (λ x. x * 2) e ∙ omega arith in
    exponent_step (nat_eq p w) (nat_le p (w / 2)) n p w m (exponent_from left (suc n) (p + p) w) refl e
    (omega arith) (λ k. exponent_found left (suc n) (p + p) w m (omega arith) twice k) h

-- The exponent that is found is one.
pub exponent_is : (w n : ℕ) → exponent_of w ≡ Some n → ExponentIs n w
unfolding exponent_of
exponent_is w n h = exponent_found 64 0 1 w n (omega arith) refl h

module _ (a n w : ℕ) (x : ExponentIs n w) where
  -- An exponent counts a shift.
  pub count_is : n % 64 ≡ n
  count_is = let l = x.below in omega arith

  shift_divides : a / 2 ^ (n % 64) ≡ a / w
  shift_divides = ap (λ c. a / 2 ^ c) count_is ∙ ap (λ p. a / p) x.is

  -- A shift to the left by an exponent multiplies.
  pub shift_multiplies : (a * 2 ^ (n % 64)) % 2 ^ 64 ≡ (a * w) % 2 ^ 64
  shift_multiplies = ap (λ c. (a * 2 ^ c) % 2 ^ 64) count_is ∙ ap (λ p. (a * p) % 2 ^ 64) x.is

  -- What a mask leaves is the remainder.
  pub mask_remains : bit_and a (w - 1) ≡ a % w
  mask_remains = ap (λ p. bit_and a (p - 1)) (sym x.is) ∙ and_mask a n ∙ ap (λ p. a % p) x.is

-- DIVISIONS

-- Without sign a shift gives the quotient.
pub shifted_by : (k : Kind) (a n w v : ℕ) → ExponentIs n w → IsArithmetic k → is_signed k ≡ false → IsWord k a
    → IsWord k w → operate Divide k a w ≡ Some v → Gives k (a / 2 ^ (n % 64)) v
shifted_by Char a n w v x t s fa fw h = absurd t
shifted_by UChar a n w v x t s fa fw h = absurd t
shifted_by Short a n w v x t s fa fw h = absurd t
shifted_by UShort a n w v x t s fa fw h = absurd t
shifted_by Int a n w v x t s fa fw h = absurd (cc s)
shifted_by UInt a n w v x t s fa fw h =
    let d = divide_gives a w v UInt t fa fw.below h in
    record { is = shift_divides a n w x ∙ sym (unsigned_quotient a w v d.some) ∙ d.gives.is; fits = d.gives.fits }
shifted_by Long a n w v x t s fa fw h = absurd (cc s)
shifted_by ULong a n w v x t s fa fw h =
    let d = divide_gives a w v ULong t fa fw.below h in
    record { is = shift_divides a n w x ∙ sym (unsigned_quotient a w v d.some) ∙ d.gives.is; fits = d.gives.fits }
shifted_by kind.Bool a n w v x t s fa fw h = absurd t

-- Without sign a mask gives the remainder.
pub masked_by : (k : Kind) (a n w v : ℕ) → ExponentIs n w → IsArithmetic k → is_signed k ≡ false → IsWord k a
    → IsWord k w → operate Remainder k a w ≡ Some v → Gives k (bit_and a (w - 1)) v
masked_by Char a n w v x t s fa fw h = absurd t
masked_by UChar a n w v x t s fa fw h = absurd t
masked_by Short a n w v x t s fa fw h = absurd t
masked_by UShort a n w v x t s fa fw h = absurd t
masked_by Int a n w v x t s fa fw h = absurd (cc s)
masked_by UInt a n w v x t s fa fw h =
    let d = remainder_gives a w v UInt t fa fw h in
    record {
      is = mask_remains a n w x ∙ sym (unsigned_remainder a w v fa.below d.some) ∙ d.gives.is;
      fits = d.gives.fits;
    }
masked_by Long a n w v x t s fa fw h = absurd (cc s)
masked_by ULong a n w v x t s fa fw h =
    let d = remainder_gives a w v ULong t fa fw h in
    record {
      is = mask_remains a n w x ∙ sym (unsigned_remainder a w v fa.below d.some) ∙ d.gives.is;
      fits = d.gives.fits;
    }
masked_by kind.Bool a n w v x t s fa fw h = absurd t

-- A power of two with such an exponent is a word.
pub power_small : (n w : ℕ) → ExponentIs n w → w < 2 ^ 64
power_small n w x =
    let l = x.below in
    let some : 0 < 2 = omega arith in
    let near : n ≤ 63 = omega arith in
    let le : 2 ^ n ≤ 2 ^ 63 = pow-le-pow_right some near in
    omega (arith, le, x.is)

-- PRODUCTS

module _ (fs : List Function) (base : ℕ) (e : Env) where
  scaled_with : (o : Option ℕ) (q i : ℕ) (f : State) (x : ℕ) → exponent_of q ≡ o → f.vars x ≡ Some i
      → Puts fs base e (scaled_by o q x) f 1 x 81 ((i * q) % 2 ^ 64)
  unfolding apply
  scaled_with None q i f x e1 hx = puts_let fs base e op.Mul (Var x) (Const q) f 1 x 81 i q ((i * q) % 2 ^ 64)
      (omega arith) (var_read fs base e f x i hx) refl refl
  scaled_with (Some n) q i f x e1 hx =
      let v = (i * 2 ^ (n % 64)) % 2 ^ 64 in
      puts_as fs base e (scaled_by (Some n) q x) f 1 x 81 v ((i * q) % 2 ^ 64)
      (shift_multiplies i n q (exponent_is q n e1))
      (puts_let fs base e op.Sll (Var x) (Const n) f 1 x 81 i n v (omega arith)
      (var_read fs base e f x i hx) refl refl)

  -- The product of a variable and a constant, by a shift where the constant is a power of two.
  pub scaled_puts : (q i : ℕ) (f : State) (x : ℕ) → f.vars x ≡ Some i
      → Puts fs base e (scaled_by (exponent_of q) q x) f 1 x 81 ((i * q) % 2 ^ 64)
  scaled_puts q i f x hx = scaled_with (exponent_of q) q i f x refl hx
