-- An operation has a cause exactly where it is undefined.
use Rattle.std.proofs.Common.{◌≡◌, ℕ, ℤ, pos, negsuc, Bool, true, false, cond, Option, Some, None, refl}
use Rattle.std.specs.Prelude.{is_none, is_some, nat_lt, int_div, int_rem, ◌*◌, ◌^◌, ◌+ℤ◌, ◌-ℤ◌, ◌*ℤ◌}
use Rattle.std.specs.Int.{int_shr}
use Rattle.c_tree.specs.declared.Kind.{Kind}
use Rattle.c_tree.specs.declared.BinaryOp.{BinaryOp}
use Rattle.c_tree.specs.declared.BinaryOp.TheVariants as op
use Rattle.c_constant.specs.declared.causes.Cause.TheVariants.{ZeroDivisor, Count, NegativeLeft}
use Rattle.c_constant.specs.Kinds.{in_kind, width, number, word_of}
use Rattle.c_constant.specs.Operation.{c_operation, operate, provided, is_zero}
use Rattle.c_constant.specs.Causes.{cause_of, unfit}

fits : (z : Option ℤ) → is_some (unfit z) ≡ is_none (word_of z)
fits None = refl
fits (Some z) = refl

quotients : (zero : Bool) (q : Option ℤ)
    → is_some (cond zero (Some ZeroDivisor) (unfit q)) ≡ is_none (word_of (cond zero None q))
quotients true q = refl
quotients false q = fits q

remainders : (zero : Bool) (q : Option ℤ) (r : ℤ)
    → is_some (cond zero (Some ZeroDivisor) (unfit q)) ≡ is_none (word_of (provided (cond zero None q) r))
remainders true q r = refl
remainders false None r = refl
remainders false (Some q) r = refl

lefts : (few : Bool) (q : Option ℤ)
    → is_some (cond few (unfit q) (Some Count)) ≡ is_none (word_of (cond few q None))
lefts true q = fits q
lefts false q = refl

rights : (few : Bool) (z : ℤ) → is_some (cond few None (Some Count)) ≡ is_none (word_of (cond few (Some z) None))
rights true z = refl
rights false z = refl

negatives : (few : Bool) → is_some (cond few (Some NegativeLeft) (Some Count)) ≡ true
negatives true = refl
negatives false = refl

undefined : (o : BinaryOp) (k : Kind) (a b : ℤ) → is_some (cause_of o k a b) ≡ is_none (word_of (c_operation o k a b))
undefined op.LogicalOr k a b = refl
undefined op.LogicalAnd k a b = refl
undefined op.BitOr k a b = refl
undefined op.BitXor k a b = refl
undefined op.BitAnd k a b = refl
undefined op.Equal k a b = refl
undefined op.NotEqual k a b = refl
undefined op.Less k a b = refl
undefined op.Greater k a b = refl
undefined op.LessEqual k a b = refl
undefined op.GreaterEqual k a b = refl
undefined op.ShiftLeft k (pos a) (pos b) = lefts (nat_lt b (width k)) (in_kind k (pos (a * 2 ^ b)))
undefined op.ShiftLeft k (pos a) (negsuc b) = refl
undefined op.ShiftLeft k (negsuc a) (pos b) = negatives (nat_lt b (width k))
undefined op.ShiftLeft k (negsuc a) (negsuc b) = refl
undefined op.ShiftRight k a (pos b) = rights (nat_lt b (width k)) (int_shr a b)
undefined op.ShiftRight k a (negsuc b) = refl
undefined op.Add k a b = fits (in_kind k (a +ℤ b))
undefined op.Subtract k a b = fits (in_kind k (a -ℤ b))
undefined op.Multiply k a b = fits (in_kind k (a *ℤ b))
undefined op.Divide k a b = quotients (is_zero b) (in_kind k (int_div a b))
undefined op.Remainder k a b = remainders (is_zero b) (in_kind k (int_div a b)) (int_rem a b)

pub undefined_words : (o : BinaryOp) (k : Kind) (a b : ℕ)
    → is_some (cause_of o k (number k a) (number k b)) ≡ is_none (operate o k a b)
unfolding operate
undefined_words o k a b = undefined o k (number k a) (number k b)
