-- The typed functions of the library that print parts of fields, as the table of `c_library` has their texts.
use Rattle.std.specs.Prelude.{List, [], ◌∷◌, Some, ℕ, ◌+◌}
use Rattle.c_tree.specs.declared.token.Kind.TheVariants.{Int, ULong}
use Rattle.c_tree.specs.declared.tree.BinaryOp.TheVariants.{Equal, NotEqual, Less, Add, Subtract, Divide}
use Rattle.c_tree.specs.declared.tree.BinaryOp.TheVariants.{Remainder}
use Rattle.c_tree.specs.declared.typed.Slot.TheVariants as slot
use Rattle.c_tree.specs.declared.typed.TypedFunc.{TypedFunc}
use Rattle.library_laws.specs.Terms.{Term, number, scalar, convert, operation, choice, call, put, none, before}
use Rattle.library_laws.specs.Terms.{bump, update, Code, plain, initialise, when, repeat, pair, give, body}
use Rattle.library_laws.specs.Printers.{Places}

-- PRINT.DIGITS

-- n == 0
abbrev pub no_digits : Places → Term
no_digits l = operation (l 17) Int Equal (scalar (l 16) ULong 0) (convert (l 18) ULong (number (l 18) Int 0))

-- print.digits(n / base, base, letters)
abbrev pub front_of_digits : Places → ℕ → Term
front_of_digits l f =
    call (l 26) Int f (before (operation (l 29) ULong Divide (scalar (l 28) ULong 0)
    (convert (l 30) ULong (scalar (l 30) Int 1)))
    (before (scalar (l 32) Int 1) (before (scalar (l 34) Int 2) none)))

-- n % base
abbrev pub last_of_digits : Places → Term
last_of_digits l =
    operation (l 41) ULong Remainder (scalar (l 40) ULong 0) (convert (l 42) ULong (scalar (l 42) Int 1))

-- d < 10 ? 48 + d : letters + d
abbrev pub digit_of_digits : Places → Term
digit_of_digits l =
    choice (l 49) Int (operation (l 47) Int Less (scalar (l 46) Int 4) (number (l 48) Int 10))
    (operation (l 51) Int Add (number (l 50) Int 48) (scalar (l 52) Int 4))
    (operation (l 55) Int Add (scalar (l 54) Int 2) (scalar (l 56) Int 4))

-- int d = n % base; putchar(d < 10 ? 48 + d : letters + d); return k + 1;
abbrev pub end_of_digits : Places → List Code
end_of_digits l =
    initialise 4 (convert (l 41) Int (last_of_digits l))
    ∷ plain (put (l 44) (digit_of_digits l))
    ∷ give (operation (l 61) Int Add (scalar (l 60) Int 3) (number (l 62) Int 1))
    ∷ []

-- if (n == 0) return 0; int k = print.digits(n / base, base, letters); and what follows
abbrev pub code_of_digits : Places → ℕ → List Code
code_of_digits l f =
    when (no_digits l) (give (number (l 21) Int 0)) ∷ initialise 3 (front_of_digits l f) ∷ end_of_digits l

-- int print.digits(unsigned long n, int base, int letters), which is function f of its program
abbrev pub digits_printer : Places → ℕ → TypedFunc
digits_printer l f = record {
  result = Some Int;
  params = 3;
  scalars = slot.Scalar ULong ∷ slot.Scalar Int ∷ slot.Scalar Int ∷ slot.Scalar Int ∷ slot.Scalar Int ∷ [];
  arrays = [];
  body = body (code_of_digits l f);
}

-- PRINT.FILL

-- k < count
abbrev pub more_to_fill : Places → Term
more_to_fill l = operation (l 18) Int Less (scalar (l 17) Int 2) (scalar (l 19) Int 1)

-- { putchar(c); k++; }
abbrev pub one_filled : Places → Code
one_filled l = pair (plain (put (l 22) (scalar (l 24) Int 0))) (plain (bump (l 28) (l 27) 2))

-- int k = 0; while (k < count) { putchar(c); k++; } return k;
abbrev pub code_of_fill : Places → List Code
code_of_fill l =
    initialise 2 (number (l 13) Int 0) ∷ repeat (more_to_fill l) (one_filled l) ∷ give (scalar (l 32) Int 2) ∷ []

-- int print.fill(int c, int count)
abbrev pub fill_printer : Places → TypedFunc
fill_printer l = record {
  result = Some Int;
  params = 2;
  scalars = slot.Scalar Int ∷ slot.Scalar Int ∷ slot.Scalar Int ∷ [];
  arrays = [];
  body = body (code_of_fill l);
}

-- PRINT.SIZE

-- n != 0
abbrev pub more_digits : Places → Term
more_digits l = operation (l 19) Int NotEqual (scalar (l 18) ULong 0) (convert (l 20) ULong (number (l 20) Int 0))

-- { n /= base; k++; }
abbrev pub one_counted : Places → Code
one_counted l =
    pair (plain (update (l 24) (l 23) ULong Divide 0 (convert (l 25) ULong (scalar (l 25) Int 1))))
    (plain (bump (l 28) (l 27) 2))

-- int k = 0; while (n != 0) { n /= base; k++; } return k;
abbrev pub code_of_size : Places → List Code
code_of_size l =
    initialise 2 (number (l 14) Int 0) ∷ repeat (more_digits l) (one_counted l) ∷ give (scalar (l 32) Int 2) ∷ []

-- int print.size(unsigned long n, int base)
abbrev pub size_counter : Places → TypedFunc
size_counter l = record {
  result = Some Int;
  params = 2;
  scalars = slot.Scalar ULong ∷ slot.Scalar Int ∷ slot.Scalar Int ∷ [];
  arrays = [];
  body = body (code_of_size l);
}

-- PRINT.CHAR

-- fill == 45
abbrev pub is_left : Places → ℕ → Term
is_left l i = operation (l (i + 1)) Int Equal (scalar (l i) Int 1) (number (l (i + 2)) Int 45)

-- print.fill(32, width - 1)
abbrev pub spare_spaces : Places → ℕ → ℕ → Term
spare_spaces l i f =
    call (l i) Int f (before (number (l (i + 2)) Int 32)
    (before (operation (l (i + 5)) Int Subtract (scalar (l (i + 4)) Int 2) (number (l (i + 6)) Int 1)) none))

-- int k = fill == 45 ? 0 : print.fill(32, width - 1); putchar(c); k++;
-- return fill == 45 ? k + print.fill(32, width - 1) : k;
abbrev pub code_of_character : Places → ℕ → List Code
code_of_character l f =
    initialise 3 (choice (l 19) Int (is_left l 16) (number (l 20) Int 0) (spare_spaces l 22 f))
    ∷ plain (put (l 31) (scalar (l 33) Int 0))
    ∷ plain (bump (l 37) (l 36) 3)
    ∷ give (choice (l 43) Int (is_left l 40) (operation (l 45) Int Add (scalar (l 44) Int 3) (spare_spaces l 46 f))
    (scalar (l 55) Int 3))
    ∷ []

-- int print.char(int c, int fill, int width), where print.fill is function f
abbrev pub character_printer : Places → ℕ → TypedFunc
character_printer l f = record {
  result = Some Int;
  params = 3;
  scalars = slot.Scalar Int ∷ slot.Scalar Int ∷ slot.Scalar Int ∷ slot.Scalar Int ∷ [];
  arrays = [];
  body = body (code_of_character l f);
}
