-- The definitions at worked values.
use Rattle.std.proofs.Common.{◌≡◌, pos, negsuc, Some, None, refl}
use Rattle.c_tree.specs.declared.Kind.TheVariants.{Char, UChar, Short, UShort, Int, UInt, Long}
use Rattle.c_tree.specs.declared.Kind.TheVariants.{ULong}
use Rattle.c_tree.specs.declared.Kind.TheVariants as kind
use Rattle.c_tree.specs.declared.UnaryOp.TheVariants as one
use Rattle.c_tree.specs.declared.BinaryOp.TheVariants as op
use Rattle.c_constant.specs.declared.causes.Cause.TheVariants as cause
use Rattle.c_constant.specs.Causes.{cause_of}
use Rattle.c_constant.specs.Kinds.{bytes, common, converted, in_kind}
use Rattle.c_constant.specs.Operation.{c_operation, c_unary, operate, left_at, right_at, result_of}

overflow : c_operation op.Add Int (pos 2147483647) (pos 1) ≡ None
overflow = refl

no_overflow : c_operation op.Add Long (pos 2147483647) (pos 1) ≡ Some (pos 2147483648)
no_overflow = refl

wraps : c_operation op.Subtract UInt (pos 0) (pos 1) ≡ Some (pos 4294967295)
wraps = refl

square : c_operation op.Multiply Int (pos 46341) (pos 46341) ≡ None
square = refl

toward_zero : c_operation op.Divide Int (negsuc 6) (pos 2) ≡ Some (negsuc 2)
toward_zero = refl

by_zero : c_operation op.Divide ULong (pos 1) (pos 0) ≡ None
by_zero = refl

least_by_minus_one : c_operation op.Divide Int (negsuc 2147483647) (negsuc 0) ≡ None
least_by_minus_one = refl

dividend_sign : c_operation op.Remainder Int (negsuc 6) (pos 4) ≡ Some (negsuc 2)
dividend_sign = refl

least_over_minus_one : c_operation op.Remainder Int (negsuc 2147483647) (negsuc 0) ≡ None
least_over_minus_one = refl

into_the_sign : c_operation op.ShiftLeft Int (pos 1) (pos 31) ≡ None
into_the_sign = refl

by_the_width : c_operation op.ShiftLeft UInt (pos 1) (pos 32) ≡ None
by_the_width = refl

negative_left : c_operation op.ShiftLeft Long (negsuc 0) (pos 0) ≡ None
negative_left = refl

rounds_down : c_operation op.ShiftRight Int (negsuc 4) (pos 1) ≡ Some (negsuc 2)
rounds_down = refl

negative_count : c_operation op.ShiftRight ULong (pos 8) (negsuc 0) ≡ None
negative_count = refl

by_bits : c_operation op.BitAnd Int (negsuc 1) (pos 7) ≡ Some (pos 6)
by_bits = refl

is_above : c_operation op.GreaterEqual Int (pos 0) (negsuc 0) ≡ Some (pos 1)
is_above = refl

least_has_no_negative : c_unary one.Minus Int (negsuc 2147483647) ≡ None
least_has_no_negative = refl

all_ones : c_unary one.Complement UInt (pos 0) ≡ Some (pos 4294967295)
all_ones = refl

word_by_word : operate op.Less Int 18446744073709551615 0 ≡ Some 1
unfolding operate
word_by_word = refl

low_bits : converted Char 511 ≡ 18446744073709551615
unfolding converted
low_bits = refl

zero_extended : converted ULong 18446744073709551615 ≡ 18446744073709551615
unfolding converted
zero_extended = refl

-- 40000 at a short
short_wraps : converted Short 40000 ≡ 18446744073709526080
unfolding converted
short_wraps = refl

short_zero_extended : converted UShort 18446744073709551615 ≡ 65535
unfolding converted
short_zero_extended = refl

shorts_are_ints : common UShort Short ≡ Int
shorts_are_ints = refl

short_is_promoted : left_at op.ShiftLeft UShort ULong ≡ Int
short_is_promoted = refl

long_holds_unsigned : common UInt Long ≡ Long
long_holds_unsigned = refl

characters_are_ints : common Char UChar ≡ Int
characters_are_ints = refl

left_alone : left_at op.ShiftLeft UChar ULong ≡ Int
left_alone = refl

right_alone : right_at op.ShiftLeft UChar ULong ≡ ULong
right_alone = refl

not_converted : left_at op.LogicalAnd Char Long ≡ Char
not_converted = refl

test_is_int : result_of op.LessEqual ULong ≡ Int
test_is_int = refl

-- 6.3.1.2: the low bit of 256 and of 2 is 0, and they are not 0
bool_of_256 : converted kind.Bool 256 ≡ 1
unfolding converted
bool_of_256 = refl

bool_of_minus_one : converted kind.Bool 18446744073709551615 ≡ 1
unfolding converted
bool_of_minus_one = refl

bool_of_zero : converted kind.Bool 0 ≡ 0
unfolding converted
bool_of_zero = refl

int_of_bool : converted Int 1 ≡ 1
unfolding converted
int_of_bool = refl

bools_are_ints : common kind.Bool kind.Bool ≡ Int
bools_are_ints = refl

bool_with_long : common kind.Bool ULong ≡ ULong
bool_with_long = refl

bool_has_a_byte : bytes kind.Bool ≡ 1
bool_has_a_byte = refl

-- the table at its ends
byte : bytes UChar ≡ 1
byte = refl

two_bytes : bytes Short ≡ 2
two_bytes = refl

eight_bytes : bytes ULong ≡ 8
eight_bytes = refl

greatest_short : in_kind Short (pos 32767) ≡ Some (pos 32767)
greatest_short = refl

beyond_short : in_kind Short (pos 32768) ≡ None
beyond_short = refl

least_long : in_kind Long (negsuc 9223372036854775807) ≡ Some (negsuc 9223372036854775807)
least_long = refl

beyond_long : in_kind Long (pos 9223372036854775808) ≡ None
beyond_long = refl

-- a conversion to a long keeps the low 64 bits of what is no word
no_word : converted Long 18446744073709551621 ≡ 5
unfolding converted
no_word = refl

sum_is_no_int : cause_of op.Add Int (pos 2147483647) (pos 1) ≡ Some cause.Overflow
sum_is_no_int = refl

unsigned_sum_wraps : cause_of op.Add UInt (pos 4294967295) (pos 1) ≡ None
unsigned_sum_wraps = refl

divided_by_zero : cause_of op.Remainder Long (pos 1) (pos 0) ≡ Some cause.ZeroDivisor
divided_by_zero = refl

quotient_is_no_int : cause_of op.Remainder Int (negsuc 2147483647) (negsuc 0) ≡ Some cause.Overflow
quotient_is_no_int = refl

count_is_the_width : cause_of op.ShiftLeft Int (pos 1) (pos 32) ≡ Some cause.Count
count_is_the_width = refl

count_is_negative : cause_of op.ShiftRight Int (negsuc 0) (negsuc 0) ≡ Some cause.Count
count_is_negative = refl

left_is_negative : cause_of op.ShiftLeft Int (negsuc 0) (pos 1) ≡ Some cause.NegativeLeft
left_is_negative = refl

bit_is_the_sign : cause_of op.ShiftLeft Int (pos 1) (pos 31) ≡ Some cause.Overflow
bit_is_the_sign = refl
