-- The rules of C17 6.5 that an operation on two numbers of a type can break, by its exact result.
use Rattle.std.specs.Prelude.{◌≡◌, ◌*◌, ◌^◌, ℤ, pos, negsuc, ◌+ℤ◌, ◌-ℤ◌, ◌*ℤ◌, true, false, nat_lt, int_div, None}
use Rattle.c_tree.specs.declared.Kind.{Kind}
use Rattle.c_tree.specs.declared.BinaryOp.{BinaryOp}
use Rattle.c_tree.specs.declared.BinaryOp.TheVariants.{ShiftLeft, ShiftRight, Add, Subtract, Multiply, Divide}
use Rattle.c_tree.specs.declared.BinaryOp.TheVariants.{Remainder}
use Rattle.c_constant.specs.declared.causes.Cause.{Cause}
use Rattle.c_constant.specs.declared.causes.Cause.TheVariants.{Overflow, ZeroDivisor, Count, NegativeLeft}
use Rattle.c_constant.specs.Kinds.{width, in_kind}
use Rattle.c_constant.specs.Operation.{is_zero}

-- a number is none of the type
abbrev pub IsOutside : Kind → ℤ → Type 0
IsOutside k z = in_kind k z ≡ None

-- 6.5.7, paragraph 3: a count is negative, or at least the number of the type's bits
abbrev pub IsNoCount : Kind → ℤ → Type 0
IsNoCount k (negsuc b) = Unit {0}
IsNoCount k (pos b) = nat_lt b (width k) ≡ false

-- 6.5.7, paragraph 4: the left operand of `<<` is negative
abbrev pub IsNegative : ℤ → Type 0
IsNegative (negsuc a) = Unit {0}
IsNegative (pos a) = ⊥

-- 6.5.7, paragraph 4: the left operand times two to the power of the count is none of the type
abbrev pub IsShiftedOut : Kind → ℤ → ℤ → Type 0
IsShiftedOut k (pos a) (pos b) = IsOutside k (pos (a * 2 ^ b))
IsShiftedOut k a b = ⊥

-- an operation on two numbers of a type breaks the rule
abbrev pub Breaks : Cause → BinaryOp → ℤ → ℤ → Kind → Type 0
Breaks Overflow Add a b k = IsOutside k (a +ℤ b)
Breaks Overflow Subtract a b k = IsOutside k (a -ℤ b)
Breaks Overflow Multiply a b k = IsOutside k (a *ℤ b)
Breaks Overflow Divide a b k = IsOutside k (int_div a b)
Breaks Overflow Remainder a b k = IsOutside k (int_div a b)
Breaks Overflow ShiftLeft a b k = IsShiftedOut k a b
Breaks ZeroDivisor Divide a b k = is_zero b ≡ true
Breaks ZeroDivisor Remainder a b k = is_zero b ≡ true
Breaks Count ShiftLeft a b k = IsNoCount k b
Breaks Count ShiftRight a b k = IsNoCount k b
Breaks NegativeLeft ShiftLeft a b k = IsNegative a
Breaks c op a b k = ⊥
