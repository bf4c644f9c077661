-- The flat code of C's operations and conversions on words that variables hold.
use Rattle.std.specs.Prelude.{ℕ, ◌+◌, Bool, true, false, cond, Option, Some, None}
use Rattle.c_tree.specs.declared.Kind.{Kind}
use Rattle.c_tree.specs.declared.Kind.TheVariants.{Char, UChar, Short, UShort, Int, UInt, Long, ULong}
use Rattle.c_tree.specs.declared.Kind.TheVariants as kind
use Rattle.c_tree.specs.declared.UnaryOp.{UnaryOp}
use Rattle.c_tree.specs.declared.UnaryOp.TheVariants.{Plus, Minus, Complement, Not}
use Rattle.c_tree.specs.declared.BumpOp.{BumpOp}
use Rattle.c_tree.specs.declared.BumpOp.TheVariants.{PreInc, PreDec, PostInc, PostDec}
use Rattle.c_tree.specs.declared.BinaryOp.{BinaryOp}
use Rattle.c_tree.specs.declared.BinaryOp.TheVariants.{LogicalOr, LogicalAnd, BitOr, BitXor, BitAnd}
use Rattle.c_tree.specs.declared.BinaryOp.TheVariants.{Equal, NotEqual, Less, Greater, LessEqual}
use Rattle.c_tree.specs.declared.BinaryOp.TheVariants.{GreaterEqual, ShiftLeft, ShiftRight, Add}
use Rattle.c_tree.specs.declared.BinaryOp.TheVariants.{Subtract, Multiply, Divide, Remainder}
use Rattle.c_constant.specs.Kinds.{is_signed}
use Rattle.trips_isa.specs.declared.op.Op.{Op}
use Rattle.trips_isa.specs.declared.op.Op.TheVariants as op
use Rattle.ir_forms.specs.declared.flat.Arg.TheVariants.{Const, Var}
use Rattle.ir_forms.specs.inside.FlatCode.{Code, Nop, Then, only, Let}
use Rattle.flat_lower.specs.inside.Narrowing.{narrowing, narrowing_from}

-- VARIABLES

-- the variable of a temporary, behind those of the scalars, of which there are at most 64
abbrev pub temp : ℕ → ℕ
temp d = 64 + d

-- a scratch variable, behind the 16 temporaries, holds only between two calls
abbrev pub scratch : ℕ → ℕ
scratch s = 80 + s

-- a variable becomes a word
abbrev pub set_word : ℕ → ℕ → Code
set_word to w = only (Let to op.Mov (Const w) (Const 0))

-- a variable becomes another
abbrev pub copied : ℕ → ℕ → Code
copied to x = only (Let to op.Mov (Var x) (Const 0))

-- an operation on one variable
abbrev pub one_done : ℕ → Op → ℕ → Code
one_done to o x = only (Let to o (Var x) (Const 0))

-- an operation on two variables
abbrev pub two_done : ℕ → Op → ℕ → ℕ → Code
two_done to o x y = only (Let to o (Var x) (Var y))

-- CONVERSIONS

-- a word narrowed into another variable
abbrev pub narrowed_by : Option Op → ℕ → ℕ → Code
narrowed_by None to x = copied to x
narrowed_by (Some o) to x = one_done to o x

-- a word of one type becomes one of another, in another variable
abbrev pub converted_to : Option Kind → Kind → ℕ → ℕ → Code
converted_to j k to x = narrowed_by (narrowing_from j k) to x

-- a word narrowed where it stands
abbrev pub narrowed_here : Option Op → ℕ → Code
narrowed_here None x = Nop
narrowed_here (Some o) x = one_done x o x

-- and where it stands, without code where it is one already
abbrev pub converted_here : Option Kind → Kind → ℕ → Code
converted_here j k x = narrowed_here (narrowing_from j k) x

-- only an unsigned int that overflows 32 bits is not yet a word of its type; what is defined of a
-- signed type fits
abbrev pub reduced_here : Kind → ℕ → Code
reduced_here UInt x = one_done x op.Extuw x
reduced_here k x = Nop

-- OPERATIONS

-- the operation of a signed type, or of an unsigned one
abbrev pub by_sign : Kind → Op → Op → Op
by_sign k signed unsigned = cond (is_signed k) signed unsigned

-- the remainder by way of the quotient
abbrev pub remainder_code : Op → ℕ → ℕ → Code
remainder_code o x y =
    Then (two_done (scratch 0) o x y)
    (Then (two_done (scratch 0) op.Mul (scratch 0) y) (two_done x op.Sub x (scratch 0)))

-- x becomes what an operation at a type gives on x and y
abbrev pub binary_code : BinaryOp → Kind → ℕ → ℕ → Code
binary_code LogicalOr k x y = Nop
binary_code LogicalAnd k x y = Nop
binary_code BitOr k x y = two_done x op.Or x y
binary_code BitXor k x y = two_done x op.Xor x y
binary_code BitAnd k x y = two_done x op.And x y
binary_code Equal k x y = two_done x op.Teq x y
binary_code NotEqual k x y = two_done x op.Tne x y
binary_code Less k x y = two_done x (by_sign k op.Tlt op.Tltu) x y
binary_code Greater k x y = two_done x (by_sign k op.Tgt op.Tgtu) x y
binary_code LessEqual k x y = two_done x (by_sign k op.Tle op.Tleu) x y
binary_code GreaterEqual k x y = two_done x (by_sign k op.Tge op.Tgeu) x y
binary_code ShiftLeft k x y = Then (two_done x op.Sll x y) (reduced_here k x)
binary_code ShiftRight k x y = two_done x (by_sign k op.Sra op.Srl) x y
binary_code Add k x y = Then (two_done x op.Add x y) (reduced_here k x)
binary_code Subtract k x y = Then (two_done x op.Sub x y) (reduced_here k x)
binary_code Multiply k x y = Then (two_done x op.Mul x y) (reduced_here k x)
binary_code Divide k x y = two_done x (by_sign k op.Divs op.Divu) x y
binary_code Remainder k x y = remainder_code (by_sign k op.Divs op.Divu) x y

-- x becomes what an operation at a type gives on x
abbrev pub unary_code : UnaryOp → Kind → ℕ → Code
unary_code Plus k x = Nop
unary_code Minus k x = Then (only (Let x op.Sub (Const 0) (Var x))) (reduced_here k x)
unary_code Complement k x =
    Then (only (Let x op.Sub (Const 18446744073709551615) (Var x))) (reduced_here k x)
unary_code Not k x = only (Let x op.Teq (Var x) (Const 0))

-- BUMPS

-- one more, or one less
abbrev pub bump_op : BumpOp → Op
bump_op PreInc = op.Add
bump_op PreDec = op.Sub
bump_op PostInc = op.Add
bump_op PostDec = op.Sub

-- the narrow types convert what was done in int, and an unsigned int is reduced
abbrev pub bump_narrowing : Kind → Option Op
bump_narrowing Int = None
bump_narrowing k = narrowing k

-- one more or less of x, in another variable
abbrev pub bumped : BumpOp → Kind → ℕ → ℕ → Code
bumped o k to x =
    Then (only (Let to (bump_op o) (Var x) (Const 1))) (narrowed_here (bump_narrowing k) to)

-- whether the new value is the expression's
abbrev pub is_before : BumpOp → Bool
is_before PreInc = true
is_before PreDec = true
is_before PostInc = false
is_before PostDec = false

-- MEMORY

-- the load of a type
abbrev pub load_op : Kind → Op
load_op Char = op.Lbs
load_op UChar = op.Lb
load_op Short = op.Lhs
load_op UShort = op.Lh
load_op Int = op.Lws
load_op UInt = op.Lw
load_op Long = op.Ld
load_op ULong = op.Ld
load_op kind.Bool = op.Lb

-- the save of a type
abbrev pub save_op : Kind → Op
save_op Char = op.Sb
save_op UChar = op.Sb
save_op Short = op.Sh
save_op UShort = op.Sh
save_op Int = op.Sw
save_op UInt = op.Sw
save_op Long = op.Sd
save_op ULong = op.Sd
save_op kind.Bool = op.Sb

-- elements have 2 to this many bytes
abbrev pub shift_of : Kind → ℕ
shift_of Char = 0
shift_of UChar = 0
shift_of Short = 1
shift_of UShort = 1
shift_of Int = 2
shift_of UInt = 2
shift_of Long = 3
shift_of ULong = 3
shift_of kind.Bool = 0
