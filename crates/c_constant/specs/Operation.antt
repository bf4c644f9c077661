-- What an operation gives, over whole numbers without bound, or none where it is undefined (C17
-- 6.5).
use Rattle.std.specs.Prelude.{ℕ, ◌*◌, ℤ, pos, negsuc, ◌^◌, ◌+ℤ◌, ◌-ℤ◌, ◌*ℤ◌, Bool, false, cond, not}
use Rattle.std.specs.Prelude.{◌&&◌, ◌||◌, nat_lt, nat_eq, int_lt, int_le, int_div, int_rem, bit_and}
use Rattle.std.specs.Prelude.{bit_or, bit_xor, Option, Some, None}
use Rattle.std.specs.Int.{int_shr}
use Rattle.c_tree.specs.declared.Kind.{Kind}
use Rattle.c_tree.specs.declared.Kind.TheVariants.{Int}
use Rattle.c_tree.specs.declared.UnaryOp.{UnaryOp}
use Rattle.c_tree.specs.declared.UnaryOp.TheVariants.{Plus, Minus, Complement, Not}
use Rattle.c_tree.specs.declared.BinaryOp.{BinaryOp}
use Rattle.c_tree.specs.declared.BinaryOp.TheVariants.{LogicalOr, LogicalAnd, BitOr, BitXor, BitAnd}
use Rattle.c_tree.specs.declared.BinaryOp.TheVariants.{Equal, NotEqual, Less, Greater, LessEqual}
use Rattle.c_tree.specs.declared.BinaryOp.TheVariants.{GreaterEqual, ShiftLeft, ShiftRight, Add}
use Rattle.c_tree.specs.declared.BinaryOp.TheVariants.{Subtract, Multiply, Divide, Remainder}
use Rattle.c_constant.specs.Kinds.{width, number, word, word_of, in_kind, promoted, common}

-- a test's answer, of type int
abbrev pub answer : Bool → Option ℤ
answer b = Some (cond b (pos 1) (pos 0))

-- whether a number is zero
abbrev pub is_zero : ℤ → Bool
is_zero (pos n) = nat_eq n 0
is_zero (negsuc n) = false

-- one number where another is defined
abbrev pub provided : Option ℤ → ℤ → Option ℤ
provided None r = None
provided (Some q) r = Some r

-- 6.5.5: toward zero, none by zero or where the quotient does not fit
abbrev pub quotient : Kind → ℤ → ℤ → Option ℤ
quotient k a b = cond (is_zero b) None (in_kind k (int_div a b))

-- 6.5.5: none where the quotient is none
abbrev pub remainder : Kind → ℤ → ℤ → Option ℤ
remainder k a b = provided (quotient k a b) (int_rem a b)

-- 6.5.7: none where the left side is negative, or the count is negative or at least the width
abbrev pub shifted_left : Kind → ℤ → ℤ → Option ℤ
shifted_left k (negsuc a) b = None
shifted_left k (pos a) (negsuc b) = None
shifted_left k (pos a) (pos b) = cond (nat_lt b (width k)) (in_kind k (pos (a * 2 ^ b))) None

-- 6.5.7: arithmetic, that is rounded down, where the left side is negative
abbrev pub shifted_right : Kind → ℤ → ℤ → Option ℤ
shifted_right k a (negsuc b) = None
shifted_right k a (pos b) = cond (nat_lt b (width k)) (Some (int_shr a b)) None

-- 6.5.10 to 6.5.12: bit by bit, on two's complement words
abbrev pub on_bits : (ℕ → ℕ → ℕ) → Kind → ℤ → ℤ → Option ℤ
on_bits f k a b = Some (number k (f (word a) (word b)))

-- the whole number that an operation gives on two numbers of a type, or none where it is undefined
abbrev pub c_operation : BinaryOp → Kind → ℤ → ℤ → Option ℤ
c_operation LogicalOr k a b = answer (not (is_zero a) || not (is_zero b))
c_operation LogicalAnd k a b = answer (not (is_zero a) && not (is_zero b))
c_operation BitOr k a b = on_bits bit_or k a b
c_operation BitXor k a b = on_bits bit_xor k a b
c_operation BitAnd k a b = on_bits bit_and k a b
c_operation Equal k a b = answer (is_zero (a -ℤ b))
c_operation NotEqual k a b = answer (not (is_zero (a -ℤ b)))
c_operation Less k a b = answer (int_lt a b)
c_operation Greater k a b = answer (int_lt b a)
c_operation LessEqual k a b = answer (int_le a b)
c_operation GreaterEqual k a b = answer (int_le b a)
c_operation ShiftLeft k a b = shifted_left k a b
c_operation ShiftRight k a b = shifted_right k a b
c_operation Add k a b = in_kind k (a +ℤ b)
c_operation Subtract k a b = in_kind k (a -ℤ b)
c_operation Multiply k a b = in_kind k (a *ℤ b)
c_operation Divide k a b = quotient k a b
c_operation Remainder k a b = remainder k a b

-- 6.5.3.3: the same of an operation on one number
abbrev pub c_unary : UnaryOp → Kind → ℤ → Option ℤ
c_unary Plus k a = Some a
c_unary Minus k a = in_kind k (pos 0 -ℤ a)
c_unary Complement k a = in_kind k (negsuc 0 -ℤ a)
c_unary Not k a = answer (is_zero a)

-- an operation on two words of a type
unfoldable pub operate : BinaryOp → Kind → ℕ → ℕ → Option ℕ
operate op k a b = word_of (c_operation op k (number k a) (number k b))

-- an operation on one word of a type
unfoldable pub operate_one : UnaryOp → Kind → ℕ → Option ℕ
operate_one op k a = word_of (c_unary op k (number k a))

-- the type to which an operation converts its left operand, in which it is done (6.3.1.8, 6.5.7); a
-- shift promotes each operand alone, and `&&` and `||` convert none
abbrev pub left_at : BinaryOp → Kind → Kind → Kind
left_at LogicalOr j k = j
left_at LogicalAnd j k = j
left_at ShiftLeft j k = promoted j
left_at ShiftRight j k = promoted j
left_at op j k = common j k

-- the type to which it converts its right operand
abbrev pub right_at : BinaryOp → Kind → Kind → Kind
right_at LogicalOr j k = k
right_at LogicalAnd j k = k
right_at ShiftLeft j k = promoted k
right_at ShiftRight j k = promoted k
right_at op j k = common j k

-- the type of the result of an operation that is done in a type
abbrev pub result_of : BinaryOp → Kind → Kind
result_of LogicalOr k = Int
result_of LogicalAnd k = Int
result_of Equal k = Int
result_of NotEqual k = Int
result_of Less k = Int
result_of Greater k = Int
result_of LessEqual k = Int
result_of GreaterEqual k = Int
result_of op k = k

-- the type in which an operation on one operand is done: `!` converts none
abbrev pub unary_at : UnaryOp → Kind → Kind
unary_at Not k = k
unary_at op k = promoted k

-- the type of its result
abbrev pub unary_result : UnaryOp → Kind → Kind
unary_result Not k = Int
unary_result op k = k
