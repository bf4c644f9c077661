-- Worked programs: what the flat code of each does, by evaluation.
use Rattle.std.proofs.Common.{◌≡◌, ℕ, ◌-◌, ◌^◌, List, [], ◌∷◌, true, false, Option, Some, None}
use Rattle.std.proofs.Common.{refl}
use Rattle.c_tree.specs.declared.Kind.{Kind}
use Rattle.c_tree.specs.declared.Kind.TheVariants.{Char, UChar, Short, UShort, Int, UInt, Long, ULong}
use Rattle.c_tree.specs.declared.Kind.TheVariants as kind
use Rattle.c_tree.specs.declared.UnaryOp.TheVariants.{Minus, Complement, Not}
use Rattle.c_tree.specs.declared.BumpOp.TheVariants.{PreInc, PostInc, PostDec}
use Rattle.c_tree.specs.declared.BinaryOp.{BinaryOp}
use Rattle.c_tree.specs.declared.BinaryOp.TheVariants as op
use Rattle.c_tree.specs.declared.Place.{Place}
use Rattle.c_tree.specs.declared.Place.TheVariants as place
use Rattle.c_tree.specs.declared.Callee.{Callee}
use Rattle.c_tree.specs.declared.Callee.TheVariants as callee
use Rattle.c_tree.specs.declared.Slot.{Slot}
use Rattle.c_tree.specs.declared.Slot.TheVariants as slot
use Rattle.c_tree.specs.declared.TypedArray.{TypedArray}
use Rattle.c_tree.specs.declared.TypedGlobal.{TypedGlobal}
use Rattle.ir_forms.specs.inside.Frames.{frame_limit}
use Rattle.ir_forms.specs.inside.Cells.{apply, load, save, marked}
use Rattle.ir_forms.specs.inside.FlatSteps.{Res, Gone, Broke, Again, Gave, Halts, NoRoom, Exited}
use Rattle.ir_forms.specs.inside.FlatSteps.{Unfinished, Wild}
use Rattle.ir_forms.specs.inside.FlatRuns.{first_memory, flat_run, checked}
use Rattle.flat_lower.specs.inside.Tree.{Expr, Number, Name, Element, Call, Unary, Cast, Convert, Bump}
use Rattle.flat_lower.specs.inside.Tree.{Binary, Choice, Assign, Comma, Exprs, NoExprs, WithExpr, Stmt}
use Rattle.flat_lower.specs.inside.Tree.{Declare, Plain, Compound, If, While, Do, For, Break, Continue}
use Rattle.flat_lower.specs.inside.Tree.{Return, Stmts, NoStmts, WithStmt, First, Nothing, FirstOf, Locals}
use Rattle.flat_lower.specs.inside.Tree.{Func, Source}
use Rattle.trips_isa.specs.declared.op.Op.TheVariants as isa
use Rattle.c_constant.specs.Kinds.{converted}
use Rattle.flat_lower.specs.inside.Narrowing.{narrowing_from}
use Rattle.flat_lower.specs.inside.Powers.{exponent_of}
use Rattle.flat_lower.specs.inside.Objects.{global_at, array_at}
use Rattle.flat_lower.specs.inside.Statements.{lowered}

-- PROGRAMS

-- a number
abbrev pub n : ℕ → Expr
n w = Number (Some Int) w

-- the scalar i, an int
abbrev pub int : ℕ → Expr
int i = Name (Some Int) (place.Scalar i)

-- an operation on two ints
abbrev pub two : BinaryOp → Expr → Expr → Expr
two o l r = Binary (Some Int) o l r

-- an assignment of an int
abbrev pub set : Expr → Expr → Expr
set l r = Assign (Some Int) None Int l r

-- an expression statement
abbrev pub does : Expr → Stmt
does e = Plain (Some e)

-- a return of a value
abbrev pub gives : Expr → Stmt
gives e = Return (Some e)

-- some statements
abbrev pub stmts : List Stmt → Stmts
stmts [] = NoStmts
stmts (s ∷ rest) = WithStmt s (stmts rest)

-- a block of statements
abbrev pub block : List Stmt → Stmt
block all = Compound (stmts all)

-- some arguments
abbrev pub exprs : List Expr → Exprs
exprs [] = NoExprs
exprs (e ∷ es) = WithExpr e (exprs es)

abbrev func : ℕ → List Slot → List TypedArray → List Stmt → Func
func params scalars arrays all = record {
  result = Some Int;
  params = params;
  scalars = scalars;
  arrays = arrays;
  body = block all;
}

abbrev ints : List Slot
ints = slot.Scalar Int ∷ slot.Scalar Int ∷ []

-- a program of one function
abbrev pub main : List TypedGlobal → List TypedArray → List Stmt → Source
main globals arrays all = record {
  globals = globals;
  functions = func 0 ints arrays all ∷ [];
  main = 0;
}

abbrev returns : Expr → Source
returns e = main [] [] (gives e ∷ [])

-- what is seen of a run: its value and output, or how it ended
abbrev value : Option ℕ → ℕ
value None = 99
value (Some v) = v

abbrev seen : Res → List ℕ
seen (Gone s m) = 1 ∷ []
seen (Broke s m) = 2 ∷ []
seen (Again s m) = 3 ∷ []
seen (Gave v s m) = 4 ∷ value v ∷ s.output
seen (Halts (NoRoom out)) = 5 ∷ out
seen (Halts (Exited w s m)) = 8 ∷ []
seen (Unfinished out r) = 6 ∷ out
seen Wild = 7 ∷ []

-- what the flat code of a program puts out on an input
abbrev pub run : Source → List ℕ → List ℕ
run P input = seen (flat_run checked (lowered P) input 400)

-- RETURNS

-- return 7;
pub seven : run (returns (n 7)) [] ≡ 4 ∷ 7 ∷ []
unfolding flat_run frame_limit first_memory apply load save marked lowered global_at array_at
seven = refl

-- the end of main returns 0
pub falls_off : run (main [] [] []) [] ≡ 4 ∷ 0 ∷ []
unfolding flat_run frame_limit first_memory apply load save marked lowered global_at array_at
falls_off = refl

-- return -7 / 2 * 10 + -7 % 2;
pub toward_zero : run (returns (two op.Add
    (two op.Multiply (two op.Divide (Unary (Some Int) Minus (n 7)) (n 2)) (n 10))
    (two op.Remainder (Unary (Some Int) Minus (n 7)) (n 2)))) [] ≡ 4 ∷ (2 ^ 64 - 31) ∷ []
unfolding flat_run frame_limit first_memory apply load save marked lowered global_at array_at exponent_of
toward_zero = refl

abbrev unsigned : ℕ → Expr
unsigned w = Number (Some UInt) w

-- return 0u - 1 > 0; and the difference itself
pub unsigned_wraps : run (returns (Binary (Some UInt) op.Subtract (unsigned 0) (unsigned 1))) []
    ≡ 4 ∷ (2 ^ 32 - 1) ∷ []
unfolding flat_run frame_limit first_memory apply load save marked lowered global_at array_at
unsigned_wraps = refl

pub compared_unsigned : run (returns (two op.Greater
    (Binary (Some UInt) op.Subtract (unsigned 0) (unsigned 1)) (unsigned 0))) [] ≡ 4 ∷ 1 ∷ []
unfolding flat_run frame_limit first_memory apply load save marked lowered global_at array_at
compared_unsigned = refl

-- return 0 && 1 / 0; and return 1 || 1 / 0;
pub and_is_short : run (returns (two op.LogicalAnd (n 0) (two op.Divide (n 1) (n 0)))) []
    ≡ 4 ∷ 0 ∷ []
unfolding flat_run frame_limit first_memory apply load save marked lowered global_at array_at exponent_of
and_is_short = refl

pub or_is_short : run (returns (two op.LogicalOr (n 5) (two op.Divide (n 1) (n 0)))) [] ≡ 4 ∷ 1 ∷ []
unfolding flat_run frame_limit first_memory apply load save marked lowered global_at array_at exponent_of
or_is_short = refl

-- CHOICES AND LOOPS

-- int a = 0, x = 5; if (a) if (1) x = 1; else x = 2; return x;
pub nearest_else : run (main [] [] (Declare (place.Scalar 0) (Some (n 0)) ∷ Declare (place.Scalar 1)
    (Some (n 5)) ∷ If (int 0) (If (n 1) (does (set (int 1) (n 1)))
    (stmts (does (set (int 1) (n 2)) ∷ []))) NoStmts ∷ gives (int 1) ∷ [])) [] ≡ 4 ∷ 5 ∷ []
unfolding flat_run frame_limit first_memory apply load save marked lowered global_at array_at
nearest_else = refl

-- int i, s = 0; for (i = 4; i != 0; i--) s += 24 / i; return s;
pub sums_quotients : run (main [] [] (Declare (place.Scalar 0) None ∷ Declare (place.Scalar 1)
    (Some (n 0)) ∷ For (FirstOf (set (int 0) (n 4))) (Some (two op.NotEqual (int 0) (n 0)))
    (Some (Bump (Some Int) PostDec (int 0)))
    (does (Assign (Some Int) (Some op.Add) Int (int 1) (two op.Divide (n 24) (int 0)))) ∷ gives
    (int 1) ∷ [])) [] ≡ 4 ∷ 50 ∷ []
unfolding flat_run frame_limit first_memory apply load save marked lowered global_at array_at exponent_of
sums_quotients = refl

-- int i = 0; do { if (i == 2) continue; putchar(i); } while (++i < 4); return i;
pub continues_at_its_test : run (main [] []
    (Declare (place.Scalar 0) (Some (n 0)) ∷ Do
    (block (If (two op.Equal (int 0) (n 2)) Continue NoStmts ∷ does
    (Call (Some Int) callee.PutChar (exprs (int 0 ∷ []))) ∷ []))
    (two op.Less (Bump (Some Int) PreInc (int 0)) (n 4)) ∷ gives (int 0) ∷ [])) []
    ≡ 4 ∷ 4 ∷ 0 ∷ 1 ∷ 3 ∷ []
unfolding flat_run frame_limit first_memory apply load save marked lowered global_at array_at
continues_at_its_test = refl

-- int i = 0; while (1) if (i++ == 3) break; return i;
pub breaks : run (main [] [] (Declare (place.Scalar 0) (Some (n 0)) ∷ While (n 1)
    (If (two op.Equal (Bump (Some Int) PostInc (int 0)) (n 3)) Break NoStmts) ∷ gives
    (int 0) ∷ [])) [] ≡ 4 ∷ 4 ∷ []
unfolding flat_run frame_limit first_memory apply load save marked lowered global_at array_at
breaks = refl

-- OBJECTS

abbrev longs : TypedGlobal
longs = record { kind = Long; length = Some 9; row = None; init = [] }

abbrev long : Place → Expr → Expr
long p i = Element (Some Long) p i

-- long a[9]; int i; a[0] = 1; for (i = 1; i < 9; i++) a[i] = a[i - 1] * 2; return (int) a[8];
pub doubles : run (main (longs ∷ []) [] (does
    (Assign (Some Long) None Long (long (place.Global 0) (n 0))
    (Convert (Some Long) Long (n 1))) ∷ For (FirstOf (set (int 0) (n 1)))
    (Some (two op.Less (int 0) (n 9))) (Some (Bump (Some Int) PostInc (int 0)))
    (does (Assign (Some Long) None Long (long (place.Global 0) (int 0))
    (Binary (Some Long) op.Multiply (long (place.Global 0) (two op.Subtract (int 0) (n 1)))
    (Convert (Some Long) Long (n 2))))) ∷ gives
    (Cast (Some Int) Int (long (place.Global 0) (n 8))) ∷ [])) [] ≡ 4 ∷ 256 ∷ []
unfolding flat_run frame_limit first_memory apply load save marked lowered global_at array_at
doubles = refl

-- char c[3]; c[2] = 200; return c[2];
pub chars_have_a_sign : run (main [] (record { kind = Int; length = 1; row = None } ∷ record {
  kind = Char;
  length = 3;
  row = None;
} ∷ []) (does (Assign (Some Char) None Char (Element (Some Char) (place.Array 1) (n 2))
    (Convert (Some Char) Char (n 200))) ∷ gives
    (Convert (Some Int) Int (Element (Some Char) (place.Array 1) (n 2))) ∷ [])) []
    ≡ 4 ∷ (2 ^ 64 - 56) ∷ []
unfolding flat_run frame_limit first_memory apply load save marked lowered global_at array_at
chars_have_a_sign = refl

-- unsigned char g = 255; return g++ + (g += 3);
abbrev byte : TypedGlobal
byte = record { kind = UChar; length = None; row = None; init = 255 ∷ [] }

abbrev g : Expr
g = Name (Some UChar) (place.Global 1)

abbrev to_int : Expr → Expr
to_int e = Convert (Some Int) Int e

pub bytes_wrap : run (main (longs ∷ byte ∷ []) []
    (gives (two op.Add (to_int (Bump (Some UChar) PostInc g))
    (to_int (Assign (Some UChar) (Some op.Add) Int g (n 3)))) ∷ [])) [] ≡ 4 ∷ 258 ∷ []
unfolding flat_run frame_limit first_memory apply load save marked lowered global_at array_at
bytes_wrap = refl

-- CALLS

-- int f(int a[], int k) { a[k] += k; return a[k]; } int main(void) { int b[2]; b[1] = 5;
-- putchar(f(b, f(b, 1) - 5)); return b[1]; }
abbrev b : Expr → Expr
b i = Element (Some Int) (place.Array 0) i

abbrev a : Expr → Expr
a i = Element (Some Int) (place.Scalar 0) i

abbrev f_of : Expr → Expr
f_of k = Call (Some Int) (callee.Func 0) (exprs (Name (Some Int) (place.Array 0) ∷ k ∷ []))

abbrev calling : Source
calling = record {
  globals = [];
  functions =
      func 2 (slot.Address Int None ∷ slot.Scalar Int ∷ []) []
      (does (Assign (Some Int) (Some op.Add) Int (a (int 1)) (int 1)) ∷ gives (a (int 1)) ∷ [])
      ∷ func 0 [] (record { kind = Int; length = 2; row = None } ∷ [])
      (does (set (b (n 1)) (n 5)) ∷ does
      (Call (Some Int) callee.PutChar (exprs
      (f_of (two op.Subtract (f_of (n 1)) (n 5)) ∷ []))) ∷ gives (b (n 1)) ∷ []) ∷ [];
  main = 1;
}

pub array_is_shared : run calling [] ≡ 4 ∷ 7 ∷ 7 ∷ []
unfolding flat_run frame_limit first_memory apply load save marked lowered global_at array_at
array_is_shared = refl

-- putchar(getchar()); return getchar();
pub echoes : run (main [] [] (does (Call (Some Int) callee.PutChar
    (exprs (Call (Some Int) callee.GetChar NoExprs ∷ []))) ∷ gives
    (Call (Some Int) callee.GetChar NoExprs) ∷ [])) (65 ∷ []) ≡ 4 ∷ (2 ^ 64 - 1) ∷ 65 ∷ []
unfolding flat_run frame_limit first_memory apply load save marked lowered global_at array_at
echoes = refl

-- int f(void) { putchar(65); exit(3); putchar(66); } int main(void) { return f() + 1; }
abbrev puts : ℕ → Stmt
puts w = does (Call (Some Int) callee.PutChar (exprs (n w ∷ [])))

abbrev exits_below : Source
exits_below = record {
  globals = [];
  functions =
      func 0 [] [] (puts 65 ∷ does (Call None callee.Exit (exprs (n 3 ∷ []))) ∷ puts 66 ∷ [])
      ∷ func 0 [] [] (gives (two op.Add (Call (Some Int) (callee.Func 0) NoExprs) (n 1)) ∷ []) ∷ [];
  main = 1;
}

-- what stands behind exit is not done, in its function and in those that wait
pub exit_ends_all : run exits_below [] ≡ 4 ∷ 3 ∷ 65 ∷ []
unfolding flat_run frame_limit first_memory apply load save marked lowered global_at array_at
exit_ends_all = refl

-- CONVERSIONS AND POWERS OF TWO

-- a char is a short, an int and a long as it stands, but no unsigned int
pub char_is_int : narrowing_from (Some Char) Int ≡ None
char_is_int = refl

pub char_is_no_uint : narrowing_from (Some Char) UInt ≡ Some isa.Extuw
char_is_no_uint = refl

-- an unsigned short is an int, an unsigned int is none
pub ushort_is_int : narrowing_from (Some UShort) Int ≡ None
ushort_is_int = refl

pub uint_is_no_int : narrowing_from (Some UInt) Int ≡ Some isa.Extsw
uint_is_no_int = refl

-- a `_Bool` is an unsigned char, which is none: a test against 0 makes it one
pub bool_is_uchar : narrowing_from (Some kind.Bool) UChar ≡ None
bool_is_uchar = refl

pub uchar_is_no_bool : narrowing_from (Some UChar) kind.Bool ≡ Some isa.Tne
uchar_is_no_bool = refl

-- 8 is 2^3; 6 and 0 are no powers of two
pub eight : exponent_of 8 ≡ Some 3
unfolding exponent_of
eight = refl

pub six : exponent_of 6 ≡ None
unfolding exponent_of
six = refl

pub no_zero : exponent_of 0 ≡ None
unfolding exponent_of
no_zero = refl

-- return 103u / 8 * 10 + 103u % 8;
pub shifts_and_masks : run (returns (Binary (Some UInt) op.Add (Binary (Some UInt) op.Multiply
    (Binary (Some UInt) op.Divide (unsigned 103) (Convert (Some UInt) UInt (n 8))) (unsigned 10))
    (Binary (Some UInt) op.Remainder (unsigned 103) (Convert (Some UInt) UInt (n 8))))) [] ≡ 4 ∷ 127 ∷ []
unfolding flat_run frame_limit first_memory apply load save marked lowered global_at array_at exponent_of converted
shifts_and_masks = refl

-- return -103l / 8 * 10 + -103l % 8;
pub long_quotients_are_rounded : run (returns (Binary (Some Long) op.Add (Binary (Some Long) op.Multiply
    (Binary (Some Long) op.Divide (Number (Some Long) (2 ^ 64 - 103)) (Number (Some Long) 8))
    (Number (Some Long) 10))
    (Binary (Some Long) op.Remainder (Number (Some Long) (2 ^ 64 - 103)) (Number (Some Long) 8)))) []
    ≡ 4 ∷ (2 ^ 64 - 127) ∷ []
unfolding flat_run frame_limit first_memory apply load save marked lowered global_at array_at exponent_of
long_quotients_are_rounded = refl
