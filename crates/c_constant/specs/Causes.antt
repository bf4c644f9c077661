-- Why an operation on two numbers is undefined: the first rule of C17 6.5 that it breaks.
use Rattle.std.specs.Prelude.{◌*◌, ◌^◌, ℤ, pos, negsuc, ◌+ℤ◌, ◌-ℤ◌, ◌*ℤ◌, cond, nat_lt, int_div, Option, Some, None}
use Rattle.c_tree.specs.declared.Kind.{Kind}
use Rattle.c_tree.specs.declared.BinaryOp.{BinaryOp}
use Rattle.c_tree.specs.declared.BinaryOp.TheVariants.{ShiftLeft, ShiftRight, Add, Subtract, Multiply, Divide}
use Rattle.c_tree.specs.declared.BinaryOp.TheVariants.{Remainder}
use Rattle.c_constant.specs.declared.causes.Cause.{Cause}
use Rattle.c_constant.specs.declared.causes.Cause.TheVariants.{Overflow, ZeroDivisor, Count, NegativeLeft}
use Rattle.c_constant.specs.Kinds.{width, in_kind}
use Rattle.c_constant.specs.Operation.{is_zero}

-- 6.5, paragraph 5: a result that is no number of its type
abbrev pub unfit : Option ℤ → Option Cause
unfit None = Some Overflow
unfit (Some z) = None

-- 6.5.5, paragraphs 5 and 6: a divisor that is zero, and a quotient that is no number of its type, which leaves the
-- remainder undefined too
abbrev pub divided : Kind → ℤ → ℤ → Option Cause
divided k a b = cond (is_zero b) (Some ZeroDivisor) (unfit (in_kind k (int_div a b)))

-- 6.5.7, paragraph 4: what is wrong with a shift to the left where its count is right
abbrev pub doubled : Kind → ℤ → ℤ → Option Cause
doubled k (negsuc a) b = Some NegativeLeft
doubled k (pos a) (negsuc b) = None
doubled k (pos a) (pos b) = unfit (in_kind k (pos (a * 2 ^ b)))

-- 6.5.7, paragraph 3: a count that is negative or at least the number of the left operand's bits; else what follows
abbrev pub counted : Kind → ℤ → Option Cause → Option Cause
counted k (negsuc b) rest = Some Count
counted k (pos b) rest = cond (nat_lt b (width k)) rest (Some Count)

-- why an operation on two numbers of a type is undefined, or none where it is defined
abbrev pub cause_of : BinaryOp → Kind → ℤ → ℤ → Option Cause
cause_of ShiftLeft k a b = counted k b (doubled k a b)
cause_of ShiftRight k a b = counted k b None
cause_of Add k a b = unfit (in_kind k (a +ℤ b))
cause_of Subtract k a b = unfit (in_kind k (a -ℤ b))
cause_of Multiply k a b = unfit (in_kind k (a *ℤ b))
cause_of Divide k a b = divided k a b
cause_of Remainder k a b = divided k a b
cause_of op k a b = None
