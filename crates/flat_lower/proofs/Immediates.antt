-- The code of a division by a power of two puts the word of C's quotient, or of its remainder.
use Rattle.std.proofs.Common.{◌≡◌, ◌≢◌, ℕ, ◌-◌, ◌^◌, ◌<◌, Bool, true, false, cond, List, Option, Some, None}
use Rattle.std.proofs.Common.{refl, sym, ap, subst, arith}
use Rattle.std.specs.Prelude.{nat_lt, bit_and}
use Rattle.std.proofs.lemmas.Bool.Decides.{nat_tests}
use Rattle.c_tree.specs.declared.Kind.{Kind}
use Rattle.c_tree.specs.declared.BinaryOp.{BinaryOp}
use Rattle.c_tree.specs.declared.BinaryOp.TheVariants.{Divide, Remainder}
use Rattle.c_constant.specs.Kinds.{is_signed, IsWord}
use Rattle.c_constant.specs.Operation.{operate, result_of}
use Rattle.trips_isa.specs.declared.op.Op.{Op}
use Rattle.trips_isa.specs.declared.op.Op.TheVariants as op
use Rattle.trips_isa.specs.Alu.{alu_of}
use Rattle.ir_forms.specs.declared.flat.Arg.TheVariants.{Const, Var}
use Rattle.ir_forms.specs.inside.FlatCode.{Code, only, Let, Function}
use Rattle.ir_forms.specs.inside.Cells.{apply}
use Rattle.ir_forms.specs.inside.FlatSteps.{State, Env}
use Rattle.ir_forms.specs.inside.FlatRuns.{checked}
use Rattle.flat_lower.specs.declared.powers.Power.{Power}
use Rattle.flat_lower.specs.inside.Kinds.{IsArithmetic}
use Rattle.flat_lower.specs.inside.Powers.{exponent_of, power_by, power_if, power_at, power_for, signed_power}
use Rattle.flat_lower.specs.inside.Powers.{immediate_for, immediate_code, exact_code, rounded_code, constant_of}
use Rattle.flat_lower.specs.inside.Powers.{are_signs, bias_code}
use Rattle.flat_lower.specs.inside.Tree.{Expr}
use Rattle.flat_lower.proofs.Operators.{Gives}
use Rattle.flat_lower.proofs.Straight.{puts_let, puts_as, var_read}
use Rattle.flat_lower.proofs.OperationWorks.{Works}
use Rattle.flat_lower.proofs.SignedShifts.{IsBias}
use Rattle.flat_lower.proofs.PowerLaws.{ExponentIs, exponent_is, power_small, shifted_by, masked_by}
use Rattle.flat_lower.proofs.SignedPowers.{HasBias, bias_by, word_near, shifted_gives, masked_gives, masked_sum}
use Rattle.flat_lower.proofs.SignedPowers.{shifted_sum, shifted_puts, masked_puts}

-- POWERS

-- p is the power w
pub record IsPower (p : Power) (w : ℕ) : Type 0 where
  pub exponent : ExponentIs p.exponent w
  pub mask : w - 1 ≡ p.mask

power_is : (w : ℕ) (p : Power) → power_by (exponent_of w) w ≡ Some p → IsPower p w
power_is w p h = go (exponent_of w) refl h
  where
    go : (o : Option ℕ) → exponent_of w ≡ o → power_by o w ≡ Some p → IsPower p w
    go None e h = absurd (cc h)
    go (Some n) e h =
        let q : Power = record { exponent = n; mask = w - 1 } in
        let same : q ≡ p = cc h in
        subst (λ (p : Power). IsPower p w) same (record { exponent = exponent_is w n e; mask = refl })

-- a power that is taken at a type
record Taken (k : Kind) (o : Option Power) (p : Power) : Type 0 where
  is : o ≡ Some p
  some : is_signed k ≡ true → 0 < p.exponent
  few : is_signed k ≡ true → p.exponent < 63

within : (b c : Bool) (q p : Power) → nat_lt 0 q.exponent ≡ b → nat_lt q.exponent 63 ≡ c
    → cond b (cond c (Some q) None) None ≡ Some p → (q ≡ p) × (0 < q.exponent) × (q.exponent < 63)
within true true q p e f h = (cc h, grind (arith, nat_tests), grind (arith, nat_tests))
within true false q p e f h = absurd (cc h)
within false c q p e f h = absurd (cc h)

taken_by : (b : Bool) (q p : Power) → cond b (signed_power q) (Some q) ≡ Some p
    → (q ≡ p) × (b ≡ true → 0 < p.exponent) × (b ≡ true → p.exponent < 63)
taken_by true q p h =
    let t = within (nat_lt 0 q.exponent) (nat_lt q.exponent 63) q p refl refl h in
    (t.0, λ s. subst (λ (p : Power). 0 < p.exponent) t.0 t.1, λ s. subst (λ (p : Power). p.exponent < 63) t.0 t.2)
taken_by false q p h = (cc h, λ s. absurd (cc s), λ s. absurd (cc s))

taken : (k : Kind) (o : Option Power) (p : Power) → power_at k o ≡ Some p → Taken k o p
taken k None p h = absurd (cc h)
taken k (Some q) p h =
    let t = taken_by (is_signed k) q p h in
    record { is = ap (λ (p : Power). Some p) t.0; some = t.1; few = t.2 }

-- Where an operation takes a constant at a type, the constant is known.
pub record HasConstant (r : Expr) : Type 0 where
  pub word : ℕ
  pub is : constant_of r ≡ Some word

power_has : (r : Expr) (p : Power) → power_if (constant_of r) ≡ Some p → HasConstant r
power_has r p h = go (constant_of r) refl h
  where
    go : (o : Option ℕ) → constant_of r ≡ o → power_if o ≡ Some p → HasConstant r
    go None e h = absurd (cc h)
    go (Some w) e h = record { word = w; is = e }

-- an operation that is done with a constant has one on its right
pub has_constant : (o : BinaryOp) (k : Kind) (r : Expr) (p : Power) → immediate_for o (Some k) r ≡ Some p
    → HasConstant r
has_constant Divide k r p h = let t = taken k (power_if (constant_of r)) p h in power_has r p t.is
has_constant Remainder k r p h = let t = taken k (power_if (constant_of r)) p h in power_has r p t.is
has_constant _ k r p h = absurd (cc h)

-- A power whose exponent counts a shift, and whose mask is a word.
pub record IsSmall (p : Power) : Type 0 where
  pub exponent : p.exponent < 64
  pub mask : p.mask < 2 ^ 64

power_if_small : (o : Option ℕ) (p : Power) → power_if o ≡ Some p → IsSmall p
power_if_small None p h = absurd (cc h)
power_if_small (Some w) p h =
    let q = power_is w p h in
    let l = power_small p.exponent w q.exponent in
    record { exponent = q.exponent.below; mask = omega (arith, l, q.mask) }

power_for_small : (k : Option Kind) (o : Option ℕ) (p : Power) → power_for k (power_if o) ≡ Some p → IsSmall p
power_for_small None o p h = absurd (cc h)
power_for_small (Some k) o p h = let t = taken k (power_if o) p h in power_if_small o p t.is

-- A power that stands in an operation is small.
pub immediate_small : (o : BinaryOp) (k : Option Kind) (r : Expr) (p : Power) → immediate_for o k r ≡ Some p
    → IsSmall p
immediate_small Divide k r p h = power_for_small k (constant_of r) p h
immediate_small Remainder k r p h = power_for_small k (constant_of r) p h
immediate_small _ k r p h = absurd (cc h)

-- CODE

module _ (fs : List Function) (base : ℕ) (e : Env) where
  exact_works : (o : Op) (k : Kind) (f : State) (x a m v : ℕ) → f.vars x ≡ Some a
      → apply checked o a m ≡ Some (alu_of o a m) → Gives k (alu_of o a m) v
      → Works fs base e (only (Let x o (Var x) (Const m))) f 5 x 80 v k
  exact_works o k f x a m v hx ho g = record {
    puts = puts_as fs base e (only (Let x o (Var x) (Const m))) f 5 x 80 (alu_of o a m) v g.is
        (puts_let fs base e o (Var x) (Const m) f 5 x 80 a m (alu_of o a m) (omega arith)
        (var_read fs base e f x a hx) refl ho);
    fits = g.fits;
  }

  bias_of : (k : Kind) (p : Power) (f : State) (x a w : ℕ) → IsPower p w → 0 < p.exponent → p.exponent < 63
      → IsArithmetic k → is_signed k ≡ true → f.vars x ≡ Some a → IsWord k a
      → HasBias fs base e (bias_code (are_signs k p.exponent) p.exponent x) f (w - 1) a
  bias_of k p f x a w q some few t s hx fa =
      bias_by fs base e (are_signs k p.exponent) p.exponent w f x a q.exponent some few fa.below hx
      (λ h. word_near k p.exponent a t s h fa)

  quotient_works : (k : Kind) (p : Power) (f : State) (x a w v : ℕ) → IsPower p w → 0 < p.exponent
      → p.exponent < 63 → IsArithmetic k → is_signed k ≡ true → x ≢ 80 → f.vars x ≡ Some a → IsWord k a
      → IsWord k w → operate Divide k a w ≡ Some v
      → Works fs base e (rounded_code Divide k p x) f 5 x 80 v k
  quotient_works k p f x a w v q some few t s nx hx fa fw h =
      let b = bias_of k p f x a w q some few t s hx fa in
      let n = p.exponent in
      let g = shifted_gives n w q.exponent few a v b.bias b.is k t s fa fw h in
      record {
        puts = puts_as fs base e (rounded_code Divide k p x) f 5 x 80 (shifted_sum a b.bias n) v g.is
            (shifted_puts fs base e (bias_code (are_signs k n) n x) f x a n (w - 1) nx hx b);
        fits = g.fits;
      }

  remainder_works : (k : Kind) (p : Power) (f : State) (x a w v : ℕ) → IsPower p w → 0 < p.exponent
      → p.exponent < 63 → IsArithmetic k → is_signed k ≡ true → x ≢ 80 → f.vars x ≡ Some a → IsWord k a
      → IsWord k w → operate Remainder k a w ≡ Some v
      → Works fs base e (rounded_code Remainder k p x) f 5 x 80 v k
  remainder_works k p f x a w v q some few t s nx hx fa fw h =
      let n = p.exponent in
      let c = bias_code (are_signs k n) n x in
      let b = subst (λ (m : ℕ). HasBias fs base e c f m a) q.mask (bias_of k p f x a w q some few t s hx fa) in
      let i = subst (λ (m : ℕ). IsBias m a b.bias) (sym q.mask) b.is in
      let d = masked_gives n w q.exponent few a v b.bias i k t s fa fw h in
      let g = subst (λ (m : ℕ). Gives k (masked_sum a b.bias m) v) q.mask d in
      record {
        puts = puts_as fs base e (rounded_code Remainder k p x) f 5 x 80 (masked_sum a b.bias p.mask) v g.is
            (masked_puts fs base e c f x a p.mask nx hx b);
        fits = g.fits;
      }

  by_sign : (b : Bool) (one other : Code) (f : State) (x v : ℕ) (k : Kind)
      → (b ≡ true → Works fs base e one f 5 x 80 v k) → (b ≡ false → Works fs base e other f 5 x 80 v k)
      → Works fs base e (cond b one other) f 5 x 80 v k
  by_sign true one other f x v k p q = p refl
  by_sign false one other f x v k p q = q refl

  -- The code of an operation on a power of two puts the word of C's result.
  pub immediate_works : (o : BinaryOp) (k : Kind) (r : Expr) (p : Power) (f : State) (x a w v : ℕ)
      → immediate_for o (Some k) r ≡ Some p → constant_of r ≡ Some w → IsArithmetic k → x ≢ 80
      → f.vars x ≡ Some a → IsWord k a → IsWord k w → operate o k a w ≡ Some v
      → Works fs base e (immediate_code o k p x) f 5 x 80 v (result_of o k)
  unfolding apply
  immediate_works Divide k r p f x a w v hm hc t nx hx fa fw h =
      let c = taken k (power_if (constant_of r)) p hm in
      let q = power_is w p (subst (λ (o : Option ℕ). power_if o ≡ Some p) hc c.is) in
      by_sign (is_signed k) (rounded_code Divide k p x) (exact_code Divide p x) f x v k
      (λ s. quotient_works k p f x a w v q (c.some s) (c.few s) t s nx hx fa fw h)
      (λ s. exact_works op.Srl k f x a p.exponent v hx refl
      (shifted_by k a p.exponent w v q.exponent t s fa fw h))
  immediate_works Remainder k r p f x a w v hm hc t nx hx fa fw h =
      let c = taken k (power_if (constant_of r)) p hm in
      let q = power_is w p (subst (λ (o : Option ℕ). power_if o ≡ Some p) hc c.is) in
      by_sign (is_signed k) (rounded_code Remainder k p x) (exact_code Remainder p x) f x v k
      (λ s. remainder_works k p f x a w v q (c.some s) (c.few s) t s nx hx fa fw h)
      (λ s. exact_works op.And k f x a p.mask v hx refl
      (subst (λ (m : ℕ). Gives k (bit_and a m) v) q.mask
      (masked_by k a p.exponent w v q.exponent t s fa fw h)))
  immediate_works _ k r p f x a w v hm hc t nx hx fa fw h = absurd (cc hm)
