-- The operations of a tree's nodes on the words that a state holds.
use Rattle.std.specs.Prelude.{ℕ, Bool, cond, nat_eq, Option, Some, None}
use Rattle.c_tree.specs.declared.Kind.{Kind}
use Rattle.c_tree.specs.declared.BinaryOp.{BinaryOp}
use Rattle.c_tree.specs.declared.BinaryOp.TheVariants.{Add, Subtract}
use Rattle.c_tree.specs.declared.UnaryOp.{UnaryOp}
use Rattle.c_tree.specs.declared.BumpOp.{BumpOp}
use Rattle.c_tree.specs.declared.BumpOp.TheVariants.{PreInc, PreDec, PostInc, PostDec}
use Rattle.c_constant.specs.Kinds.{number, promoted, converted}
use Rattle.c_constant.specs.Operation.{operate, operate_one}
use Rattle.c_constant.specs.declared.causes.Cause.{Cause}
use Rattle.c_constant.specs.Causes.{cause_of}
use Rattle.c_meaning_spec.specs.declared.fault.Fault.{Fault}
use Rattle.c_meaning_spec.specs.declared.fault.Fault.TheVariants.{Binary, Unary, IllFormed}

-- whether a test fails
abbrev pub is_false : ℕ → Bool
is_false w = nat_eq w 0

-- whether a word is not 0, as an int
abbrev pub truth_of : ℕ → ℕ
truth_of w = cond (is_false w) 0 1

-- An operation is done at the kind of its left operand: typing gives both operands that kind, but
-- for the count of a shift, and a count below the width is the same number at each kind. A void
-- call has no kind.
abbrev pub binary_of : BinaryOp → Option Kind → ℕ → ℕ → Option ℕ
binary_of op None a b = None
binary_of op (Some k) a b = operate op k a b

-- the same of an operation on one word
abbrev pub unary_of : UnaryOp → Option Kind → ℕ → Option ℕ
unary_of op None a = None
unary_of op (Some k) a = operate_one op k a

-- a word converted, if there is one
abbrev pub converted_if : Kind → Option ℕ → Option ℕ
converted_if k None = None
converted_if k (Some w) = Some (converted k w)

-- a compound assignment: at a kind of its own, and then in that of the left side (C17 6.5.16.2)
abbrev pub compound_of : BinaryOp → Option Kind → Kind → ℕ → ℕ → Option ℕ
compound_of op None at old b = None
compound_of op (Some k) at old b = converted_if k (operate op at (converted at old) b)

-- the operation of ++ and --
abbrev pub bump_operation : BumpOp → BinaryOp
bump_operation PreInc = Add
bump_operation PreDec = Subtract
bump_operation PostInc = Add
bump_operation PostDec = Subtract

-- ++ and -- are += 1 and -= 1 (C17 6.5.2.4, 6.5.3.1)
abbrev pub bump_of : BumpOp → Option Kind → ℕ → Option ℕ
bump_of op None old = None
bump_of op (Some k) old = converted_if k (operate (bump_operation op) (promoted k) old 1)

-- and give the new value where they stand before their operand, and the old one where they stand
-- after it
abbrev pub bump_value : BumpOp → ℕ → ℕ → ℕ
bump_value PreInc old new = new
bump_value PreDec old new = new
bump_value PostInc old new = old
bump_value PostDec old new = old

-- WHY THERE IS NO VALUE

-- an operation on two words that breaks a rule
abbrev pub broken : BinaryOp → Kind → ℕ → ℕ → Option Cause → Fault
broken op k a b None = IllFormed
broken op k a b (Some c) = Binary c op k a b

-- why an operation on two words has no value
unfoldable pub words_fault : BinaryOp → Kind → ℕ → ℕ → Fault
words_fault op k a b = broken op k a b (cause_of op k (number k a) (number k b))

-- why an operation at the kind of its left operand has no value
abbrev pub binary_fault : BinaryOp → Option Kind → ℕ → ℕ → Fault
binary_fault op None a b = IllFormed
binary_fault op (Some k) a b = words_fault op k a b

-- the same of an operation on one word
abbrev pub unary_fault : UnaryOp → Option Kind → ℕ → Fault
unary_fault op None a = IllFormed
unary_fault op (Some k) a = Unary op k a

-- the same of a compound assignment
abbrev pub compound_fault : BinaryOp → Option Kind → Kind → ℕ → ℕ → Fault
compound_fault op None at old b = IllFormed
compound_fault op (Some k) at old b = words_fault op at (converted at old) b

-- the same of ++ and --
abbrev pub bump_fault : BumpOp → Option Kind → ℕ → Fault
bump_fault op None old = IllFormed
bump_fault op (Some k) old = words_fault (bump_operation op) (promoted k) old 1
