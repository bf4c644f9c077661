-- What the names of the benchmark's text mean in it, and which definitions its calls call.
use Rattle.std.proofs.Common.{◌≡◌, ◌<◌, ◌≤◌, ℕ, zero, suc, ◌+◌, Bool, true, false, cond, List, [], ◌∷◌, ◌++◌}
use Rattle.std.proofs.Common.{codes, Option}
use Rattle.std.proofs.Common.{Some, None, refl, sym, ap, ◌∙◌, subst, arith, append_assoc, nat_eq, get_or}
use Rattle.std.specs.Prelude.{decimal}
use Rattle.std.proofs.lemmas.Bool.Decides.{nat_tests}
use Rattle.std.specs.Cmp.Lexicographic.{bytes_decides}
use Rattle.std.proofs.lemmas.Fmt.{decimal_injective}
use Rattle.c_tree.specs.declared.token.Kind.TheVariants.{Int, Long}
use Rattle.c_tree.specs.declared.tree.Top.{Top}
use Rattle.c_tree.specs.declared.tree.TopNode.{TopNode}
use Rattle.c_tree.specs.declared.tree.TopNode.TheVariants.{Include, Global, Func}
use Rattle.c_tree.specs.declared.typed.Callee.{Callee}
use Rattle.c_tree.specs.declared.typed.Callee.TheVariants as callee
use Rattle.c_tree.specs.declared.typed.Place.TheVariants as place
use Rattle.c_tree.specs.declared.typed.Slot.TheVariants as slot
use Rattle.c_type_expr.specs.declared.meaning.Meaning.{Meaning}
use Rattle.c_type_expr.specs.declared.meaning.Meaning.TheVariants as meaning
use Rattle.c_type_expr.specs.Scope.{Frame, same_name, find, bound}
use Rattle.c_type.specs.FileScopes.{eof_name, getchar_name, putchar_name, exit_name, get_char, put_char, exit_now}
use Rattle.c_type.specs.FileScopes.{count_after}
use Rattle.c_type_rules.specs.Definitions as rules
use Rattle.c_type_rules.specs.Definitions.{Defines, Calls, CallsIn}
use Rattle.bench_laws.proofs.Trees.{InLine, Offsets, name_a, name_i, name_x, name_f, function, functions, main, array}
use Rattle.bench_laws.proofs.Trees.{tree}

-- NAMES

-- names of functions of other numbers are other names
names_apart : (j k : ℕ) → j < 64 → k < 64 → (j ≡ k → ⊥) → name_f j ≡ name_f k → ⊥
names_apart j k a b n e = n (decimal_injective j k (omega arith) (omega arith) (cc e))

same_self : (w : List ℕ) → same_name w w ≡ true
same_self w = (bytes_decides w w).1 refl

not_same : (v w : List ℕ) → (v ≡ w → ⊥) → same_name v w ≡ false
not_same v w n = go (same_name v w) refl
  where
    go : (b : Bool) → same_name v w ≡ b → same_name v w ≡ false
    go true e = absurd (n ((bytes_decides v w).0 e))
    go false e = e

-- what the name of function k means
abbrev pub function_meaning : ℕ → Meaning
function_meaning k = meaning.Function (Some Long) (slot.Scalar Long ∷ []) (Some (callee.Func k)) true

-- what the array's name means
abbrev pub array_meaning : Meaning
array_meaning = meaning.Array Long None (place.Global 0)

-- the names at file scope behind the functions below n
abbrev pub frame : ℕ → Frame
frame zero = bound name_a array_meaning ∷ bound eof_name meaning.EndOfFile ∷ bound exit_name exit_now
    ∷ bound putchar_name put_char ∷ bound getchar_name get_char ∷ []
frame (suc n) = bound (name_f n) (function_meaning n) ∷ frame n

-- behind n functions, `a` is the array
pub find_a : (n : ℕ) → find (frame n) name_a ≡ Some array_meaning
find_a zero = refl
find_a (suc n) = find_a n

-- behind n functions, `putchar` is the function that stands without a definition
pub find_putchar : (n : ℕ) → find (frame n) putchar_name ≡ Some put_char
find_putchar zero = refl
find_putchar (suc n) = find_putchar n

-- behind n functions, `x` is not declared
pub find_x : (n : ℕ) → find (frame n) name_x ≡ None
find_x zero = refl
find_x (suc n) = find_x n

-- behind n functions, `i` is not declared
pub find_i : (n : ℕ) → find (frame n) name_i ≡ None
find_i zero = refl
find_i (suc n) = find_i n

-- behind n functions, `main` is not declared
pub find_main : (n : ℕ) → find (frame n) (codes "main") ≡ None
find_main zero = refl
find_main (suc n) = find_main n

-- the name of a function that is still to come
pub find_new : (n k : ℕ) → n ≤ k → k < 64 → find (frame n) (name_f k) ≡ None
find_new zero k a b = refl
find_new (suc n) k a b =
    ap (λ (x : Bool). cond x (Some (function_meaning n)) (find (frame n) (name_f k)))
    (not_same (name_f n) (name_f k) (names_apart n k (omega arith) b (λ e. absurd (omega arith))))
    ∙ find_new n k (omega arith) b

-- the name of one that has come
pub find_function : (n k : ℕ) → k < n → n ≤ 64 → find (frame n) (name_f k) ≡ Some (function_meaning k)
find_function zero k a b = absurd (omega arith)
find_function (suc n) k a b = go (find_function n k) (nat_eq n k) refl
  where
    go : (k < n → n ≤ 64 → find (frame n) (name_f k) ≡ Some (function_meaning k)) → (x : Bool) → nat_eq n k ≡ x
        → find (frame (suc n)) (name_f k) ≡ Some (function_meaning k)
    go more true e =
        let same : n ≡ k = grind (arith, nat_tests) in
        subst (λ (j : ℕ). find (frame (suc n)) (name_f j) ≡ Some (function_meaning j)) same
        (ap (λ (x : Bool). cond x (Some (function_meaning n)) (find (frame n) (name_f n))) (same_self (name_f n)))
    go more false e =
        let other : n ≡ k → ⊥ = grind (arith, nat_tests) in
        ap (λ (x : Bool). cond x (Some (function_meaning n)) (find (frame n) (name_f k)))
        (not_same (name_f n) (name_f k) (names_apart n k (omega arith) (omega arith) other))
        ∙ more (grind (arith, other)) (omega arith)

-- DEFINITIONS

-- so many functions from function a on
abbrev pub functions_from : (ℕ → InLine) → ℕ → ℕ → List Top
functions_from o a zero = []
functions_from o a (suc m) = function (o a) a ∷ functions_from o (suc a) m

-- those below n are those from 0 on
pub from_is : (o : ℕ → InLine) (a m : ℕ)
    → functions_from o a (suc m) ≡ functions_from o a m ++ function (o (a + m)) (a + m) ∷ []
from_is o a zero =
    let e : a + 0 ≡ a = omega arith in
    ap (λ (b : ℕ). function (o b) b ∷ []) (sym e)
from_is o a (suc m) =
    let e : suc a + m ≡ a + suc m = omega arith in
    ap (λ (ts : List Top). function (o a) a ∷ ts) (from_is o (suc a) m
    ∙ ap (λ (b : ℕ). functions_from o (suc a) m ++ function (o b) b ∷ []) e)

-- the functions below n are those from 0 on
pub functions_are : (o : ℕ → InLine) (n : ℕ) → functions o n ≡ functions_from o 0 n
functions_are o zero = refl
functions_are o (suc n) =
    let e : 0 + n ≡ n = omega arith in
    sym (from_is o 0 n ∙ ap (λ (b : ℕ). functions_from o 0 n ++ function (o b) b ∷ []) e
    ∙ ap (λ (ts : List Top). ts ++ function (o n) n ∷ []) (sym (functions_are o n)))

-- the name that an item defines as a function of its own
abbrev Names : TopNode → List ℕ → Type 0
Names (Func given v params (Some body)) w = v ≡ w
Names _ w = Unit {0}

names_is : {n : ℕ} {t : TopNode} {w : List ℕ} {c : Callee} → Defines n t w c → Names t w
names_is rules.function = refl
names_is rules.input = tt
names_is rules.output = tt
names_is rules.exit = tt

-- the number of definitions is counted up
counted : (w : List ℕ) (a : ℕ) (ts : List Top) (o : Option Callee) → Calls w (suc a) ts o → Calls w (a + 1) ts o
counted w a ts o c = let e : suc a ≡ a + 1 = omega arith in subst (λ (n : ℕ). Calls w n ts o) e c

-- functions of greater numbers do not define the name
none_from : (o : ℕ → InLine) (k a m : ℕ) (ts : List Top) → k < a → a + m ≤ 64 → ((b : ℕ) → Calls (name_f k) b ts None)
    → Calls (name_f k) a (functions_from o a m ++ ts) None
none_from o k a zero ts h few rest = rest a
none_from o k a (suc m) ts h few rest =
    rules.not_defined
    (λ c d. names_apart a k (omega arith) (omega arith) (λ e. absurd (omega arith)) (names_is d))
    (counted (name_f k) a _ None (none_from o k (suc a) m ts (omega arith) (omega arith) rest))

-- function k is defined by the k-th definition
some_from : (o : ℕ → InLine) (k a m : ℕ) (ts : List Top) → a ≤ k → k < a + m → a + m ≤ 64
    → ((b : ℕ) → Calls (name_f k) b ts None)
    → Calls (name_f k) a (functions_from o a m ++ ts) (Some (callee.Func k))
some_from o k a zero ts h l few rest = absurd (omega arith)
some_from o k a (suc m) ts h l few rest =
    go (λ g. some_from o k (suc a) m ts g (omega arith) (omega arith) rest) (nat_eq a k) refl
  where
    go : (suc a ≤ k → Calls (name_f k) (suc a) (functions_from o (suc a) m ++ ts) (Some (callee.Func k)))
        → (x : Bool) → nat_eq a k ≡ x
        → Calls (name_f k) a (functions_from o a (suc m) ++ ts) (Some (callee.Func k))
    go more true e =
        let same : a ≡ k = grind (arith, nat_tests) in
        subst (λ (j : ℕ). Calls (name_f j) a (functions_from o a (suc m) ++ ts) (Some (callee.Func j))) same
        (rules.defined rules.function (counted (name_f a) a _ None
        (none_from o a (suc a) m ts (omega arith) (omega arith)
        (λ b. subst (λ (j : ℕ). Calls (name_f j) b ts None) (sym same) (rest b)))))
    go more false e =
        let other : a ≡ k → ⊥ = grind (arith, nat_tests) in
        rules.defined_later (counted (name_f k) a _ (Some (callee.Func k)) (more (grind (arith, other))))

-- the functions are passed on the way to what follows them
passed_from : (o : ℕ → InLine) (w : List ℕ) (c : Callee) (a m : ℕ) (ts : List Top) → Calls w (a + m) ts (Some c)
    → Calls w a (functions_from o a m ++ ts) (Some c)
passed_from o w c a zero ts h = let e : a + 0 ≡ a = omega arith in subst (λ (n : ℕ). Calls w n ts (Some c)) e h
passed_from o w c a (suc m) ts h =
    let e : a + suc m ≡ suc a + m = omega arith in
    rules.defined_later (counted w a _ (Some c) (passed_from o w c (suc a) m ts
    (subst (λ (n : ℕ). Calls w n ts (Some c)) e h)))

-- in the unit a call of function k calls the k-th definition
pub calls_function : (o : Offsets) (n k : ℕ) → k < n → n ≤ 64
    → CallsIn (tree o n) (name_f k) (Some (callee.Func k))
calls_function o n k below few =
    let e : 0 + n ≡ n = omega arith in
    rules.defined_later (rules.defined_later
    (subst (λ (fs : List Top). Calls (name_f k) 0 (fs ++ main o n ∷ []) (Some (callee.Func k)))
    (sym (functions_are o.functions n))
    (some_from o.functions k 0 n (main o n ∷ []) (omega arith) (omega arith) (omega arith)
    (λ b. rules.not_defined (λ c d. absurd
    (let q : 109 ≡ 102 = ap (λ (w : List ℕ). get_or w 0 0) (names_is d) in omega arith)) rules.no_item))))

-- and a call of main the last one
pub calls_main : (o : Offsets) (n : ℕ) → CallsIn (tree o n) (codes "main") (Some (callee.Func n))
calls_main o n =
    let e : n ≡ 0 + n = omega arith in
    rules.defined_later (rules.defined_later
    (subst (λ (fs : List Top). Calls (codes "main") 0 (fs ++ main o n ∷ []) (Some (callee.Func n)))
    (sym (functions_are o.functions n))
    (passed_from o.functions (codes "main") (callee.Func n) 0 n (main o n ∷ [])
    (subst (λ (m : ℕ). Calls (codes "main") m (main o n ∷ []) (Some (callee.Func n))) e
    (rules.defined rules.function rules.no_item)))))
