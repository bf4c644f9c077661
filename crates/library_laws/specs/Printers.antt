-- The typed functions of the library that print numbers, as the table of `c_library` has their texts.
use Rattle.std.specs.Prelude.{ℕ, List, [], ◌∷◌, Some}
use Rattle.c_tree.specs.declared.token.Kind.TheVariants.{Int, Long, ULong}
use Rattle.c_tree.specs.declared.tree.BinaryOp.TheVariants.{BitAnd, Less, GreaterEqual, ShiftRight}
use Rattle.c_tree.specs.declared.tree.BinaryOp.TheVariants.{Add, Subtract, Divide, Remainder}
use Rattle.c_tree.specs.declared.typed.Slot.TheVariants as slot
use Rattle.c_tree.specs.declared.typed.TypedFunc.{TypedFunc}
use Rattle.library_laws.specs.Terms.{Term, number, scalar, convert, operation, choice, call, put, none, before}
use Rattle.library_laws.specs.Terms.{cast, negative, when}
use Rattle.library_laws.specs.Terms.{Code, plain, initialise, give, body}

-- The place of each token of a function's text, by its number in the text from 0 on.
abbrev pub Places : Type 0
Places = ℕ → ℕ

-- PRINT.U

-- n < 10 ? 0 : print.u(n / 10)
abbrev pub front_of_unsigned : Places → ℕ → Term
front_of_unsigned l f =
    choice (l 14) Int (operation (l 12) Int Less (scalar (l 11) ULong 0) (convert (l 13) ULong (number (l 13) Int 10)))
    (number (l 15) Int 0)
    (call (l 17) Int f (before (operation (l 20) ULong Divide (scalar (l 19) ULong 0)
    (convert (l 21) ULong (number (l 21) Int 10))) none))

-- 48 + n % 10
abbrev pub last_of_unsigned : Places → Term
last_of_unsigned l =
    operation (l 27) ULong Add (convert (l 26) ULong (number (l 26) Int 48))
    (operation (l 29) ULong Remainder (scalar (l 28) ULong 0) (convert (l 30) ULong (number (l 30) Int 10)))

-- int k = n < 10 ? 0 : print.u(n / 10); putchar(48 + n % 10); return k + 1;
abbrev pub code_of_unsigned : Places → ℕ → List Code
code_of_unsigned l f =
    initialise 1 (front_of_unsigned l f)
    ∷ plain (put (l 24) (convert (l 27) Int (last_of_unsigned l)))
    ∷ give (operation (l 35) Int Add (scalar (l 34) Int 1) (number (l 36) Int 1))
    ∷ []

-- int print.u(unsigned long n), which is function f of its program
abbrev pub unsigned_printer : Places → ℕ → TypedFunc
unsigned_printer l f = record {
  result = Some Int;
  params = 1;
  scalars = slot.Scalar ULong ∷ slot.Scalar Int ∷ [];
  arrays = [];
  body = body (code_of_unsigned l f);
}

-- PRINT.D

-- n >= 0
abbrev pub no_sign : Places → Term
no_sign l = operation (l 10) Int GreaterEqual (scalar (l 9) Long 0) (convert (l 11) Long (number (l 11) Int 0))

-- print.u(n)
abbrev pub positive_printed : Places → ℕ → Term
positive_printed l f = call (l 14) Int f (before (convert (l 16) ULong (scalar (l 16) Long 0)) none)

-- print.u(-(unsigned long) n)
abbrev pub negative_printed : Places → ℕ → Term
negative_printed l f =
    call (l 27) Int f (before (negative (l 29) ULong (cast (l 30) ULong (scalar (l 34) Long 0))) none)

-- if (n >= 0) return print.u(n); putchar(45); return 1 + print.u(-(unsigned long) n);
abbrev pub code_of_signed : Places → ℕ → List Code
code_of_signed l f =
    when (no_sign l) (give (positive_printed l f))
    ∷ plain (put (l 19) (number (l 21) Int 45))
    ∷ give (operation (l 26) Int Add (number (l 25) Int 1) (negative_printed l f))
    ∷ []

-- int print.d(long n), where print.u is function f
abbrev pub signed_printer : Places → ℕ → TypedFunc
signed_printer l f = record {
  result = Some Int;
  params = 1;
  scalars = slot.Scalar Long ∷ [];
  arrays = [];
  body = body (code_of_signed l f);
}

-- PRINT.X

-- n < 16 ? 0 : print.x(n >> 4)
abbrev pub front_of_hexadecimal : Places → ℕ → Term
front_of_hexadecimal l f =
    choice (l 14) Int (operation (l 12) Int Less (scalar (l 11) ULong 0) (convert (l 13) ULong (number (l 13) Int 16)))
    (number (l 15) Int 0)
    (call (l 17) Int f (before (operation (l 20) ULong ShiftRight (scalar (l 19) ULong 0) (number (l 21) Int 4)) none))

-- n & 15
abbrev pub last_of_hexadecimal : Places → Term
last_of_hexadecimal l =
    operation (l 28) ULong BitAnd (scalar (l 27) ULong 0) (convert (l 29) ULong (number (l 29) Int 15))

-- d < 10 ? 48 + d : 97 - 10 + d
abbrev pub digit_of_hexadecimal : Places → Term
digit_of_hexadecimal l =
    choice (l 36) Int (operation (l 34) Int Less (scalar (l 33) Int 2) (number (l 35) Int 10))
    (operation (l 38) Int Add (number (l 37) Int 48) (scalar (l 39) Int 2))
    (operation (l 44) Int Add (operation (l 42) Int Subtract (number (l 41) Int 97) (number (l 43) Int 10))
    (scalar (l 45) Int 2))

-- int d = n & 15; putchar(d < 10 ? 48 + d : 97 - 10 + d); return k + 1;
abbrev pub end_of_hexadecimal : Places → List Code
end_of_hexadecimal l =
    initialise 2 (convert (l 28) Int (last_of_hexadecimal l))
    ∷ plain (put (l 31) (digit_of_hexadecimal l))
    ∷ give (operation (l 50) Int Add (scalar (l 49) Int 1) (number (l 51) Int 1))
    ∷ []

-- int k = n < 16 ? 0 : print.x(n >> 4); and what follows
abbrev pub code_of_hexadecimal : Places → ℕ → List Code
code_of_hexadecimal l f = initialise 1 (front_of_hexadecimal l f) ∷ end_of_hexadecimal l

-- int print.x(unsigned long n), which is function f of its program
abbrev pub hexadecimal_printer : Places → ℕ → TypedFunc
hexadecimal_printer l f = record {
  result = Some Int;
  params = 1;
  scalars = slot.Scalar ULong ∷ slot.Scalar Int ∷ slot.Scalar Int ∷ [];
  arrays = [];
  body = body (code_of_hexadecimal l f);
}
