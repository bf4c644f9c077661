-- The sentence that tells why an evaluation is undefined: what was done with which numbers, and the rule of C17.
use Rattle.std.specs.Prelude.{ℕ, ◌-◌, List, ◌++◌, codes, decimal}
use Rattle.std.specs.Fmt.{signed_decimal}
use Rattle.c_tree.specs.declared.token.Kind.{Kind}
use Rattle.c_tree.specs.declared.token.Kind.TheVariants as kind
use Rattle.c_tree.specs.declared.tree.BinaryOp.{BinaryOp}
use Rattle.c_tree.specs.declared.tree.BinaryOp.TheVariants as op
use Rattle.c_tree.specs.declared.tree.UnaryOp.{UnaryOp}
use Rattle.c_tree.specs.declared.tree.UnaryOp.TheVariants as one
use Rattle.c_constant.specs.declared.causes.Cause.{Cause}
use Rattle.c_constant.specs.declared.causes.Cause.TheVariants as cause
use Rattle.c_constant.specs.Kinds.{number}
use Rattle.c_meaning_spec.specs.declared.fault.Fault.{Fault}
use Rattle.c_meaning_spec.specs.declared.fault.Fault.TheVariants as fault

-- a type's name behind "no"
abbrev pub kind_name : Kind → List ℕ
kind_name kind.Char = codes "char"
kind_name kind.UChar = codes "unsigned char"
kind_name kind.Short = codes "short"
kind_name kind.UShort = codes "unsigned short"
kind_name kind.Int = codes "int"
kind_name kind.UInt = codes "unsigned int"
kind_name kind.Long = codes "long"
kind_name kind.ULong = codes "unsigned long"
kind_name kind.Bool = codes "_Bool"

-- what an operation gives, and its sign; only those have a name here that can be undefined
abbrev pub result_name : BinaryOp → List ℕ
result_name op.Add = codes "sum"
result_name op.Subtract = codes "difference"
result_name op.Multiply = codes "product"
result_name op.Divide = codes "quotient"
result_name op.Remainder = codes "remainder"
result_name op.ShiftLeft = codes "shift"
result_name op.ShiftRight = codes "shift"
result_name _ = codes "result"

-- the sign between the operands
abbrev pub sign : BinaryOp → List ℕ
sign op.Add = codes "+"
sign op.Subtract = codes "-"
sign op.Multiply = codes "*"
sign op.Divide = codes "/"
sign op.Remainder = codes "%"
sign op.ShiftLeft = codes "<<"
sign op.ShiftRight = codes ">>"
sign _ = codes ","

-- the type at which the right operand is told: a count has a type of its own, and is told as a long
abbrev pub right_kind : BinaryOp → Kind → Kind
right_kind op.ShiftLeft k = kind.Long
right_kind op.ShiftRight k = kind.Long
right_kind _ k = k

-- the rule that an operation breaks, before its type's name
abbrev pub rule_words : Cause → BinaryOp → List ℕ
rule_words cause.Overflow op.Remainder = codes "has a quotient that is no "
rule_words cause.Overflow _ = codes "is no "
rule_words cause.ZeroDivisor _ = codes "divides by a zero of type "
rule_words cause.Count _ = codes "has a count outside the width of "
rule_words cause.NegativeLeft _ = codes "is of a negative "

-- the section of the rule
abbrev pub rule_section : Cause → BinaryOp → List ℕ
rule_section cause.Overflow op.Divide = codes "6.5.5p6"
rule_section cause.Overflow op.Remainder = codes "6.5.5p6"
rule_section cause.Overflow op.ShiftLeft = codes "6.5.7p4"
rule_section cause.Overflow _ = codes "6.5p5"
rule_section cause.ZeroDivisor _ = codes "6.5.5p5"
rule_section cause.Count _ = codes "6.5.7p3"
rule_section cause.NegativeLeft _ = codes "6.5.7p4"

-- a word as the number that it stands for at a type
abbrev pub told : Kind → ℕ → List ℕ
told k w = signed_decimal (number k w)

-- an operation on two operands, with its numbers
abbrev pub operation_told : BinaryOp → List ℕ → List ℕ → List ℕ
operation_told op a b =
    codes "the " ++ (result_name op ++ (codes " " ++ (a ++ (codes " " ++ (sign op ++ (codes " " ++ b))))))

-- the rule that it breaks
abbrev pub rule_told : Cause → BinaryOp → Kind → List ℕ
rule_told c op k =
    codes " " ++ (rule_words c op ++ (kind_name k ++ (codes " (C17 " ++ (rule_section c op ++ codes ")"))))

-- what is done to one operand
abbrev pub unary_name : UnaryOp → List ℕ
unary_name one.Minus = codes "negation"
unary_name _ = codes "result"

-- the sentence
abbrev pub sentence : Fault → List ℕ
sentence (fault.Binary c op k a b) = operation_told op (told k a) (told (right_kind op k) b) ++ rule_told c op k
sentence (fault.Unary op k a) =
    codes "the " ++ (unary_name op ++ (codes " of " ++ (told k a ++ (codes " is no "
    ++ (kind_name k ++ codes " (C17 6.5p5)")))))
sentence (fault.Outside i n) =
    codes "the index " ++ (told kind.Long i ++ (codes " is outside its array of "
    ++ (decimal n ++ codes " (C17 6.5.6p8)")))
sentence (fault.OutsideRows n q) =
    codes "an index is outside its dimension of an array of " ++ (decimal n ++ (codes " in rows of "
    ++ (decimal q ++ codes " (C17 6.5.6p8)")))
sentence fault.NeverSet = codes "a value is taken that was never set (C17 6.3.2.1p2)"
sentence fault.NoValue = codes "a value is taken of a call that returned none (C17 6.9.1p12)"
sentence fault.IllFormed = codes "a tree that no typing makes"
