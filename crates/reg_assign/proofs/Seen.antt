-- Sets of variables as numbers: unions, differences and operands.
use Rattle.std.proofs.Common.{◌≡◌, ℕ, zero, suc, ◌+◌, ◌<◌, ◌%◌, ◌^◌, min, max, Bool, true}
use Rattle.std.proofs.Common.{false, cond, not, ◌&&◌, ◌||◌, List, [], ◌∷◌}
use Rattle.std.proofs.Common.{Option}
use Rattle.std.proofs.Common.{Some, None, bit_and, bit_or, refl, sym, ap, ap₂, ◌∙◌}
use Rattle.std.proofs.Common.{nat_eq, arith, inl, inr, eq-eqb, ne_eqb}
use mathlib.Core.Path.{fun_ext}
use Rattle.std.specs.Int.{bit_at}
use Rattle.std.proofs.lemmas.Bool.{cases_eq}
use Rattle.std.proofs.lemmas.Nat.Bits.{shr_and_one, bit_at_and, bit_at_or, bit_at_xor, bit_at-lt}
use Rattle.std.proofs.lemmas.Nat.Bits.{bit_at-pow_same, bit_at-pow_other, bit_at-zero}
use Rattle.ir_forms.specs.declared.flat.Arg.{Arg}
use Rattle.ir_forms.specs.declared.flat.Arg.TheVariants.{Const, Var}
use Rattle.ir_forms.specs.inside.FlatViews.{stays}
use Rattle.reg_assign.specs.inside.Live.{VarSet, empty, one, both, minus, reads, reads_any, reads_if}
use Rattle.reg_assign.specs.inside.Live.{result}
use Rattle.reg_assign.specs.inside.Pass.{seen, bit, without, read_by, with_read, set_by}
use Rattle.reg_assign.specs.inside.Pass.{read_if}

is_bit : (n v : ℕ) → seen n v ≡ nat_eq (bit_at n v) 1
is_bit n v = ap (λ x. nat_eq x 1) (shr_and_one n v)

or_bits : (x y : ℕ) → x < 2 → y < 2 → nat_eq (max x y) 1 ≡ nat_eq x 1 || nat_eq y 1
or_bits zero zero p q = refl
or_bits zero (suc zero) p q = refl
or_bits (suc zero) zero p q = refl
or_bits (suc zero) (suc zero) p q = refl
or_bits zero (suc (suc y)) p q = absurd (omega arith)
or_bits (suc zero) (suc (suc y)) p q = absurd (omega arith)
or_bits (suc (suc x)) y p q = absurd (omega arith)

less_bits : (x y : ℕ) → x < 2 → y < 2
    → nat_eq ((x + min x y) % 2) 1 ≡ nat_eq x 1 && not (nat_eq y 1)
less_bits zero zero p q = refl
less_bits zero (suc zero) p q = refl
less_bits (suc zero) zero p q = refl
less_bits (suc zero) (suc zero) p q = refl
less_bits zero (suc (suc y)) p q = absurd (omega arith)
less_bits (suc zero) (suc (suc y)) p q = absurd (omega arith)
less_bits (suc (suc x)) y p q = absurd (omega arith)

seen_or : (a b : ℕ) → seen (bit_or a b) ≡ both (seen a) (seen b)
seen_or a b = fun_ext (λ v.
    is_bit (bit_or a b) v ∙ ap (λ x. nat_eq x 1) (bit_at_or a b v)
    ∙ or_bits (bit_at a v) (bit_at b v) (bit_at-lt a v) (bit_at-lt b v)
    ∙ sym (ap₂ (λ x y. x || y) (is_bit a v) (is_bit b v)))

seen_without : (a b : ℕ) → seen (without a b) ≡ minus (seen a) (seen b)
seen_without a b = fun_ext (λ v.
    is_bit (without a b) v
    ∙ ap (λ x. nat_eq x 1) (bit_at_xor a (bit_and a b) v
    ∙ ap (λ x. (bit_at a v + x) % 2) (bit_at_and a b v))
    ∙ less_bits (bit_at a v) (bit_at b v) (bit_at-lt a v) (bit_at-lt b v)
    ∙ sym (ap₂ (λ x y. x && not y) (is_bit a v) (is_bit b v)))

-- 0 is the empty set
pub seen_zero : seen 0 ≡ empty
seen_zero = fun_ext (λ v. is_bit 0 v ∙ ap (λ x. nat_eq x 1) (bit_at-zero v))

-- one bit is the set of one variable
pub seen_bit : (k : ℕ) → seen (bit k) ≡ one k
unfolding bit
seen_bit k = fun_ext (λ v. each v (stays k))
  where
    each : (v : ℕ) (b : Bool) → seen (cond b (2 ^ k) 0) v ≡ b && nat_eq v k
    each v true = is_bit (2 ^ k) v ∙ elim (cases_eq v k) [
      | inl same ↦ ap (λ x. nat_eq x 1) (ap (bit_at (2 ^ k)) same ∙ bit_at-pow_same k)
          ∙ sym (eq-eqb v k same)
      | inr other ↦ ap (λ x. nat_eq x 1) (bit_at-pow_other k v other) ∙ sym (ne_eqb v k other)
    ]
    each v false = is_bit 0 v ∙ ap (λ x. nat_eq x 1) (bit_at-zero v)

-- UNIONS

or_assoc : (a b c : Bool) → (a || b) || c ≡ a || (b || c)
or_assoc true b c = refl
or_assoc false b c = refl

or_comm : (a b : Bool) → a || b ≡ b || a
or_comm true true = refl
or_comm true false = refl
or_comm false true = refl
or_comm false false = refl

or_none : (a : Bool) → a || false ≡ a
or_none true = refl
or_none false = refl

-- the union of sets may be grouped either way
pub both_assoc : (a b c : VarSet) → both (both a b) c ≡ both a (both b c)
both_assoc a b c = fun_ext (λ v. or_assoc (a v) (b v) (c v))

-- the union of two sets is the same in either order
pub both_comm : (a b : VarSet) → both a b ≡ both b a
both_comm a b = fun_ext (λ v. or_comm (a v) (b v))

-- the union with the empty set is the set
pub both_none : (a : VarSet) → both a empty ≡ a
both_none a = fun_ext (λ v. or_none (a v))

none_both : (a : VarSet) → both empty a ≡ a
none_both a = refl

-- the first of three goes last
pub both_turned : (a b c : VarSet) → both (both a b) c ≡ both (both b c) a
both_turned a b c = both_assoc a b c ∙ both_comm a (both b c)

-- OPERANDS

-- the number for an operand is the set of the variables that it reads
pub seen_read : (x : Arg) → seen (read_by x) ≡ reads x
seen_read (Const w) = seen_zero
seen_read (Var k) = seen_bit k

-- so is the number for an operand that may be absent
pub seen_read_if : (x : Option Arg) → seen (read_if x) ≡ reads_if x
seen_read_if None = seen_zero
seen_read_if (Some x) = seen_read x

-- the number for a result is the set of its variable, if it has one
pub seen_set : (to : Option ℕ) → seen (set_by to) ≡ result to
seen_set None = seen_zero
seen_set (Some k) = seen_bit k

-- a set with one more
pub seen_with : (a b : ℕ) (x y : VarSet) → seen a ≡ x → seen b ≡ y → seen (bit_or a b) ≡ both x y
seen_with a b x y e h = seen_or a b ∙ ap₂ both e h

-- a number with another one's bits taken out is the first set without the second
pub seen_less : (a b : ℕ) (x y : VarSet) → seen a ≡ x → seen b ≡ y → seen (without a b) ≡ minus x y
seen_less a b x y e h = seen_without a b ∙ ap₂ minus e h

-- a number with the bits of some operands is its set and what they read
pub seen_args : (set : ℕ) (xs : List Arg) → seen (with_read set xs) ≡ both (seen set) (reads_any xs)
seen_args set [] = sym (both_none (seen set))
seen_args set (x ∷ xs) =
    seen_args (bit_or set (read_by x)) xs
    ∙ ap (λ a. both a (reads_any xs)) (seen_with set (read_by x) (seen set) (reads x) refl
    (seen_read x))
    ∙ both_assoc (seen set) (reads x) (reads_any xs)
