-- The typed program of the benchmark, with the places of its tree.
use Rattle.std.proofs.Common.{ℕ, zero, suc, List, [], ◌∷◌, ◌++◌, Option, Some, None}
use Rattle.c_tree.specs.declared.Kind.TheVariants.{Int, Long}
use Rattle.c_tree.specs.declared.BinaryOp.TheVariants.{Less, Add, Subtract, Remainder}
use Rattle.c_tree.specs.declared.Slot.{Slot}
use Rattle.c_tree.specs.declared.Slot.TheVariants as slot
use Rattle.c_tree.specs.declared.TypedFunc.{TypedFunc}
use Rattle.c_tree.specs.declared.TypedGlobal.{TypedGlobal}
use Rattle.c_tree.specs.declared.TypedProgram.{TypedProgram}
use Rattle.bench_laws.proofs.Terms.{Term, number, scalar, element, convert, cast, operation, assign, set, call, put}
use Rattle.bench_laws.proofs.Terms.{Code, plain, declare, initialise, loop, give}
use Rattle.bench_laws.proofs.Rules.{body}
use Rattle.bench_laws.proofs.Trees.{InLine, onward, Offsets}

-- i, in a function
abbrev pub index : ℕ → Term
index l = scalar l Long 1

-- i = v
abbrev pub set_i : InLine → ℕ → Term
set_i l v = assign (l 1) (l 0) Long 1 (convert (l 2) Long v)

-- i < 16
abbrev pub below_16 : InLine → Term
below_16 l = operation (l 1) Int Less (index (l 0)) (convert (l 2) Long 16)

-- i = i + 1
abbrev pub step : InLine → Term
step l = assign (l 1) (l 0) Long 1 (operation (l 3) Long Add (index (l 2)) (convert (l 4) Long 1))

-- a[i] = x + i
abbrev pub filled : InLine → Term
filled l = set (l 4) (l 0) Long 0 (index (l 2)) (operation (l 6) Long Add (scalar (l 5) Long 0) (index (l 7)))

-- a[i] = x + i;
abbrev pub fill : InLine → Code
fill l = plain (filled l)

-- a[i] = a[i] + a[i - 1]
abbrev pub added_up : InLine → Term
added_up l = set (l 4) (l 0) Long 0 (index (l 2)) (operation (l 9) Long Add (element (l 5) Long 0 (index (l 7)))
    (element (l 10) Long 0 (operation (l 13) Long Subtract (index (l 12)) (convert (l 14) Long 1))))

-- a[i] = a[i] + a[i - 1];
abbrev pub add_up : InLine → Code
add_up l = plain (added_up l)

-- a[15] + k
abbrev pub sum : InLine → ℕ → Term
sum l k = operation (l 4) Long Add (element (l 0) Long 0 (number (l 2) Int 15)) (convert (l 5) Long k)

-- the body of function k, in its line
abbrev pub function_code : InLine → ℕ → List Code
function_code l k =
    declare 1
    ∷ loop (set_i (onward 12 l) 0) (below_16 (onward 16 l)) (step (onward 20 l)) (fill (onward 26 l))
    ∷ loop (set_i (onward 37 l) 1) (below_16 (onward 41 l)) (step (onward 45 l)) (add_up (onward 51 l))
    ∷ give (sum (onward 69 l) k)
    ∷ []

-- function k
abbrev pub function : InLine → ℕ → TypedFunc
function l k = record {
  result = Some Long;
  params = 1;
  scalars = slot.Scalar Long ∷ slot.Scalar Long ∷ [];
  arrays = [];
  body = body (function_code l k);
}

-- the functions below n
abbrev pub functions : (ℕ → InLine) → ℕ → List TypedFunc
functions o zero = []
functions o (suc n) = functions o n ++ function (o n) n ∷ []

-- x = fK(x) % 1000
abbrev pub advanced : InLine → ℕ → Term
advanced l k = assign (l 1) (l 0) Long 0 (operation (l 6) Long Remainder (call (l 2) Long k (scalar (l 4) Long 0))
    (convert (l 7) Long 1000))

-- x = fK(x) % 1000;
abbrev pub advance : InLine → ℕ → Code
advance l k = plain (advanced l k)

-- (int) (x % 26)
abbrev pub low : InLine → Term
low l = cast (l 0) Int (operation (l 5) Long Remainder (scalar (l 4) Long 0) (convert (l 6) Long 26))

-- putchar(65 + (int) (x % 26))
abbrev pub shown : InLine → Term
shown l = put (l 0) (operation (l 3) Int Add (number (l 2) Int 65) (low (onward 4 l)))

-- putchar(65 + (int) (x % 26));
abbrev pub show : InLine → Code
show l = plain (shown l)

-- the calls of the functions below n
abbrev pub calls : (ℕ → InLine) → ℕ → List Code
calls o zero = []
calls o (suc n) = calls o n ++ advance (o n) n ∷ show (onward 9 (o n)) ∷ []

-- (int) x
abbrev pub result : InLine → Term
result l = cast (l 0) Int (scalar (l 3) Long 0)

-- return (int) x;
abbrev pub ending : InLine → List Code
ending l = give (result (onward 1 l)) ∷ []

-- the body of main
abbrev pub main_code : Offsets → ℕ → List Code
main_code o n = initialise 0 (convert (o.main 9) Long 1) ∷ (calls o.calls n ++ ending o.ending)

-- main, which calls the functions below n
abbrev pub main : Offsets → ℕ → TypedFunc
main o n = record {
  result = Some Int;
  params = 0;
  scalars = slot.Scalar Long ∷ [];
  arrays = [];
  body = body (main_code o n);
}

-- long a[16];
abbrev pub array : TypedGlobal
array = record { kind = Long; length = Some 16; row = None; init = [] }

-- the program with n functions
abbrev pub program : Offsets → ℕ → TypedProgram
program o n = record { globals = array ∷ []; functions = functions o.functions n ++ main o n ∷ []; main = n }
