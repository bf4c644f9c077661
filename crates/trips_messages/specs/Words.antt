-- Classes of words, by which a refusal is told.
use Rattle.std.specs.Prelude.{ℕ, Bool, true, false, ◌||◌, ◌&&◌, not, if◌then◌else◌, nat_eq, nat_le, List, [], ◌∷◌}
use Rattle.std.specs.Prelude.{suc, length, take, codes}
use Rattle.std.specs.Str.{bytes_eq}

-- a letter, `_`, a digit or a point: what a name or a number goes on with
abbrev pub goes_on : ℕ → Bool
goes_on b =
    (nat_le 48 b && nat_le b 57) || ((nat_le 65 b && nat_le b 90) || ((nat_le 97 b && nat_le b 122)
    || (nat_eq b 95 || nat_eq b 46)))

-- a character of ASCII that is seen
abbrev pub is_seen : ℕ → Bool
is_seen b = nat_le 32 b && nat_le b 126

-- how many bytes go on
abbrev pub run_length : List ℕ → ℕ
run_length [] = 0
run_length (b ∷ bs) = if goes_on b then suc (run_length bs) else 0

-- how many bytes the word at the front has: a name, a number, or one byte
abbrev pub word_length : List ℕ → ℕ
word_length [] = 0
word_length (b ∷ bs) = if goes_on b && not (nat_eq b 46) then suc (run_length bs) else 1

-- does the word hold a point?
abbrev pub has_point : List ℕ → Bool
has_point [] = false
has_point (b ∷ bs) = if nat_eq b 46 then true else has_point bs

-- a byte that is no character
abbrev pub is_other_byte : List ℕ → Bool
is_other_byte (b ∷ []) = not (is_seen b)
is_other_byte _ = false

-- does the call of a function go on so?
abbrev pub is_call : List ℕ → Bool
is_call [] = false
is_call (b ∷ bs) = nat_eq b 40

-- does a line begin with the word?
abbrev pub begins : List ℕ → List ℕ → Bool
begins word line = bytes_eq (take (length word) line) word

-- a line that includes a header
abbrev pub is_header : List ℕ → Bool
is_header line = begins (codes "#include") line

-- a line that chooses parts of a text by an expression
abbrev pub is_conditional : List ℕ → Bool
is_conditional line = begins (codes "#if") line || begins (codes "#elif") line

-- a type with members
abbrev pub is_aggregate : List ℕ → Bool
is_aggregate word =
    bytes_eq word (codes "struct") || bytes_eq word (codes "union")

-- a word that names a type or constants
abbrev pub is_new_type : List ℕ → Bool
is_new_type word =
    bytes_eq word (codes "enum") || bytes_eq word (codes "typedef")

-- a storage class, or a word of its kind
abbrev pub is_storage : List ℕ → Bool
is_storage word =
    bytes_eq word (codes "static") || (bytes_eq word (codes "extern") || (bytes_eq word (codes "register")
    || (bytes_eq word (codes "auto") || bytes_eq word (codes "inline"))))

-- a qualifier of a type
abbrev pub is_qualifier : List ℕ → Bool
is_qualifier word =
    bytes_eq word (codes "const") || (bytes_eq word (codes "volatile") || (bytes_eq word (codes "restrict")
    || bytes_eq word (codes "_Atomic")))

-- a word of a floating type
abbrev pub is_floating : List ℕ → Bool
is_floating word =
    bytes_eq word (codes "float") || (bytes_eq word (codes "double") || (bytes_eq word (codes "_Complex")
    || bytes_eq word (codes "_Imaginary")))

-- an operator that gives a size
abbrev pub is_size : List ℕ → Bool
is_size word =
    bytes_eq word (codes "sizeof") || bytes_eq word (codes "_Alignof")

-- a function of `<ctype.h>` that asks for a class
abbrev pub is_class : List ℕ → Bool
is_class word =
    bytes_eq word (codes "isdigit") || (bytes_eq word (codes "isalpha") || (bytes_eq word (codes "isalnum")
    || (bytes_eq word (codes "isspace") || (bytes_eq word (codes "isupper") || bytes_eq word (codes "islower")))))

-- a function of `<ctype.h>`
abbrev pub is_classifying : List ℕ → Bool
is_classifying word =
    is_class word || (bytes_eq word (codes "isxdigit") || (bytes_eq word (codes "ispunct")
    || (bytes_eq word (codes "isprint") || (bytes_eq word (codes "toupper") || bytes_eq word (codes "tolower")))))

-- a name of `<stdlib.h>`
abbrev pub is_general : List ℕ → Bool
is_general word =
    bytes_eq word (codes "abs") || (bytes_eq word (codes "labs") || (bytes_eq word (codes "rand")
    || (bytes_eq word (codes "srand") || (bytes_eq word (codes "exit") || bytes_eq word (codes "RAND_MAX")))))

-- a function of `<string.h>`
abbrev pub is_copying : List ℕ → Bool
is_copying word =
    bytes_eq word (codes "strlen") || (bytes_eq word (codes "strcmp") || (bytes_eq word (codes "strcpy")
    || (bytes_eq word (codes "memset") || bytes_eq word (codes "memcpy"))))

-- a function of the library that reads or writes, and is not here
abbrev pub is_reading : List ℕ → Bool
is_reading word =
    bytes_eq word (codes "scanf") || (bytes_eq word (codes "gets") || (bytes_eq word (codes "fgets")
    || bytes_eq word (codes "sprintf")))

-- a name of the library that is not here
abbrev pub is_library : List ℕ → Bool
is_library word =
    is_reading word || (bytes_eq word (codes "malloc") || (bytes_eq word (codes "calloc")
    || (bytes_eq word (codes "free") || bytes_eq word (codes "NULL"))))

-- a name of `<stdio.h>`, but for `printf`
abbrev pub is_declared : List ℕ → Bool
is_declared word =
    bytes_eq word (codes "getchar") || (bytes_eq word (codes "putchar") || (bytes_eq word (codes "puts")
    || bytes_eq word (codes "EOF")))

-- a word of a label
abbrev pub is_label : List ℕ → Bool
is_label word =
    bytes_eq word (codes "case") || bytes_eq word (codes "default")

-- a statement that leaves a loop or a turn of it
abbrev pub is_leaving : List ℕ → Bool
is_leaving word =
    bytes_eq word (codes "break") || bytes_eq word (codes "continue")
