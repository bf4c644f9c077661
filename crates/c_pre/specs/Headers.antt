-- The names that headers make known.
use Rattle.std.specs.Prelude.{ℕ, ◌^◌, ◌-◌, Bool, true, false, List, [], ◌∷◌, codes}
use Rattle.c_tree.specs.declared.Kind.{Kind}
use Rattle.c_tree.specs.declared.Kind.TheVariants.{Int, UInt, Long, ULong}
use Rattle.c_lex.specs.declared.directive.Header.{Header}
use Rattle.c_lex.specs.declared.directive.Header.TheVariants as header

-- a name, and the constant that it is: its value modulo 2^64, and its type
abbrev pub Row : Type 0
Row = List ℕ × ℕ × Kind

-- `<limits.h>` (C17 5.2.4.2.1). Types shorter than int are promoted, and long long is long.
unfoldable pub limits : List Row
limits =
    (codes "CHAR_BIT", 8, Int)
    ∷ (codes "SCHAR_MIN", 2 ^ 64 - 2 ^ 7, Int)
    ∷ (codes "SCHAR_MAX", 2 ^ 7 - 1, Int)
    ∷ (codes "UCHAR_MAX", 2 ^ 8 - 1, Int)
    ∷ (codes "CHAR_MIN", 2 ^ 64 - 2 ^ 7, Int)
    ∷ (codes "CHAR_MAX", 2 ^ 7 - 1, Int)
    ∷ (codes "MB_LEN_MAX", 1, Int)
    ∷ (codes "SHRT_MIN", 2 ^ 64 - 2 ^ 15, Int)
    ∷ (codes "SHRT_MAX", 2 ^ 15 - 1, Int)
    ∷ (codes "USHRT_MAX", 2 ^ 16 - 1, Int)
    ∷ (codes "INT_MIN", 2 ^ 64 - 2 ^ 31, Int)
    ∷ (codes "INT_MAX", 2 ^ 31 - 1, Int)
    ∷ (codes "UINT_MAX", 2 ^ 32 - 1, UInt)
    ∷ (codes "LONG_MIN", 2 ^ 63, Long)
    ∷ (codes "LONG_MAX", 2 ^ 63 - 1, Long)
    ∷ (codes "ULONG_MAX", 2 ^ 64 - 1, ULong)
    ∷ (codes "LLONG_MIN", 2 ^ 63, Long)
    ∷ (codes "LLONG_MAX", 2 ^ 63 - 1, Long)
    ∷ (codes "ULLONG_MAX", 2 ^ 64 - 1, ULong)
    ∷ []

-- `<stdbool.h>` (C17 7.18), without `bool`
abbrev pub stdbool : List Row
stdbool =
    (codes "true", 1, Int) ∷ (codes "false", 0, Int) ∷ (codes "__bool_true_false_are_defined", 1, Int) ∷ []

-- `<stdlib.h>` (C17 7.22): the values for the end of main, and the greatest of `rand`
abbrev pub stdlib : List Row
stdlib =
    (codes "EXIT_FAILURE", 1, Int) ∷ (codes "EXIT_SUCCESS", 0, Int) ∷ (codes "RAND_MAX", 2 ^ 15 - 1, Int) ∷ []

-- `<stdint.h>` (C17 7.20.2, 7.20.3): the limits of its types, and of two of `<stddef.h>`. Those of the fast types are
-- gcc's on x86-64 Linux. Types shorter than int are promoted.
unfoldable pub stdint : List Row
stdint =
    (codes "INT8_MIN", 2 ^ 64 - 2 ^ 7, Int)
    ∷ (codes "INT8_MAX", 2 ^ 7 - 1, Int)
    ∷ (codes "UINT8_MAX", 2 ^ 8 - 1, Int)
    ∷ (codes "INT16_MIN", 2 ^ 64 - 2 ^ 15, Int)
    ∷ (codes "INT16_MAX", 2 ^ 15 - 1, Int)
    ∷ (codes "UINT16_MAX", 2 ^ 16 - 1, Int)
    ∷ (codes "INT32_MIN", 2 ^ 64 - 2 ^ 31, Int)
    ∷ (codes "INT32_MAX", 2 ^ 31 - 1, Int)
    ∷ (codes "UINT32_MAX", 2 ^ 32 - 1, UInt)
    ∷ (codes "INT64_MIN", 2 ^ 63, Long)
    ∷ (codes "INT64_MAX", 2 ^ 63 - 1, Long)
    ∷ (codes "UINT64_MAX", 2 ^ 64 - 1, ULong)
    ∷ (codes "INT_LEAST8_MIN", 2 ^ 64 - 2 ^ 7, Int)
    ∷ (codes "INT_LEAST8_MAX", 2 ^ 7 - 1, Int)
    ∷ (codes "UINT_LEAST8_MAX", 2 ^ 8 - 1, Int)
    ∷ (codes "INT_LEAST16_MIN", 2 ^ 64 - 2 ^ 15, Int)
    ∷ (codes "INT_LEAST16_MAX", 2 ^ 15 - 1, Int)
    ∷ (codes "UINT_LEAST16_MAX", 2 ^ 16 - 1, Int)
    ∷ (codes "INT_LEAST32_MIN", 2 ^ 64 - 2 ^ 31, Int)
    ∷ (codes "INT_LEAST32_MAX", 2 ^ 31 - 1, Int)
    ∷ (codes "UINT_LEAST32_MAX", 2 ^ 32 - 1, UInt)
    ∷ (codes "INT_LEAST64_MIN", 2 ^ 63, Long)
    ∷ (codes "INT_LEAST64_MAX", 2 ^ 63 - 1, Long)
    ∷ (codes "UINT_LEAST64_MAX", 2 ^ 64 - 1, ULong)
    ∷ (codes "INT_FAST8_MIN", 2 ^ 64 - 2 ^ 7, Int)
    ∷ (codes "INT_FAST8_MAX", 2 ^ 7 - 1, Int)
    ∷ (codes "UINT_FAST8_MAX", 2 ^ 8 - 1, Int)
    ∷ (codes "INT_FAST16_MIN", 2 ^ 63, Long)
    ∷ (codes "INT_FAST16_MAX", 2 ^ 63 - 1, Long)
    ∷ (codes "UINT_FAST16_MAX", 2 ^ 64 - 1, ULong)
    ∷ (codes "INT_FAST32_MIN", 2 ^ 63, Long)
    ∷ (codes "INT_FAST32_MAX", 2 ^ 63 - 1, Long)
    ∷ (codes "UINT_FAST32_MAX", 2 ^ 64 - 1, ULong)
    ∷ (codes "INT_FAST64_MIN", 2 ^ 63, Long)
    ∷ (codes "INT_FAST64_MAX", 2 ^ 63 - 1, Long)
    ∷ (codes "UINT_FAST64_MAX", 2 ^ 64 - 1, ULong)
    ∷ (codes "INTPTR_MIN", 2 ^ 63, Long)
    ∷ (codes "INTPTR_MAX", 2 ^ 63 - 1, Long)
    ∷ (codes "UINTPTR_MAX", 2 ^ 64 - 1, ULong)
    ∷ (codes "INTMAX_MIN", 2 ^ 63, Long)
    ∷ (codes "INTMAX_MAX", 2 ^ 63 - 1, Long)
    ∷ (codes "UINTMAX_MAX", 2 ^ 64 - 1, ULong)
    ∷ (codes "PTRDIFF_MIN", 2 ^ 63, Long)
    ∷ (codes "PTRDIFF_MAX", 2 ^ 63 - 1, Long)
    ∷ (codes "SIZE_MAX", 2 ^ 64 - 1, ULong)
    ∷ []

-- the names that a header makes known; the others have none, but for functions
abbrev pub names_of : Header → List Row
names_of header.Limits = limits
names_of header.Stdbool = stdbool
names_of header.Stdlib = stdlib
names_of header.Stdint = stdint
names_of _ = []

-- Does the header give types (7.19, 7.20)? So its token stays for the pass over names of types.
abbrev pub gives_types : Header → Bool
gives_types header.Stddef = true
gives_types header.Stdint = true
gives_types _ = false
