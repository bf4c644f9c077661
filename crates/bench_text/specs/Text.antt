-- The C text of the benchmark (README.md of this crate): so many functions, each of which fills an array, adds it up
-- and gives 16 x + 120 + k, and a main that calls one after the other.
use Rattle.std.specs.Prelude.{ℕ, zero, suc, List, [], ◌++◌, codes, decimal}

-- what stands above the functions
unfoldable pub head : List ℕ
head = codes "#include <stdio.h>\nlong a[16];\n"

-- a function's text up to its number, up to its number again, and behind that
unfoldable pub function_name : List ℕ
function_name = codes "long f"

-- its loops fill the array with x, x + 1, .., x + 15, and add it up from its start, so that a[15]
-- is 16 x + 120
unfoldable pub function_body : List ℕ
function_body =
    codes "(long x) { long i; for (i = 0; i < 16; i = i + 1) a[i] = x + i; "
    ++ codes "for (i = 1; i < 16; i = i + 1) a[i] = a[i] + a[i - 1]; return a[15] + "

-- behind the number k, which is added to the sum
unfoldable pub function_end : List ℕ
function_end = codes "; }\n"

-- function k, in a line
abbrev pub function : ℕ → List ℕ
function k =
    function_name ++ (decimal k ++ (function_body ++ (decimal k ++ function_end)))

-- the functions below n, in order
abbrev pub functions : ℕ → List ℕ
functions zero = []
functions (suc n) = functions n ++ function n

-- what stands between the functions and the calls
unfoldable pub main_head : List ℕ
main_head = codes "int main(void) { long x = 1;\n"

-- a call's text up to the number of its function, and behind it: the value modulo 1,000 is the next argument,
-- and modulo 26 a letter of the output
unfoldable pub call_name : List ℕ
call_name = codes "x = f"

-- 65 is the letter A
unfoldable pub call_end : List ℕ
call_end = codes "(x) % 1000; putchar(65 + (int) (x % 26));\n"

-- the call of function k, in a line
abbrev pub call : ℕ → List ℕ
call k = call_name ++ (decimal k ++ call_end)

-- the calls of the functions below n, in order
abbrev pub calls : ℕ → List ℕ
calls zero = []
calls (suc n) = calls n ++ call n

-- the end of main
unfoldable pub main_end : List ℕ
main_end = codes "return (int) x; }\n"

-- the text with n functions
abbrev pub bench_text : ℕ → List ℕ
bench_text n = head ++ (functions n ++ (main_head ++ (calls n ++ main_end)))
