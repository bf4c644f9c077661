-- A run of the benchmark: its rounds, main, and the evaluation.
use Rattle.std.proofs.Common.{◌≡◌, ℕ, zero, suc, ◌+◌, ◌-◌, ◌*◌, ◌%◌, ◌<◌, ◌≤◌, pos, Bool, true, false, List, [], ◌∷◌}
use Rattle.std.proofs.Common.{◌++◌, Option, Some, None, refl, sym, ap, ◌∙◌, subst, arith, append_assoc}
use Rattle.std.proofs.Common.{nat_eq, length}
use Rattle.std.proofs.Common.{replicate}
use Rattle.std.specs.Prelude.{slice_get}
use Rattle.std.proofs.lemmas.Bool.Decides.{nat_tests}
use Rattle.c_tree.specs.declared.Kind.TheVariants.{Int, Long}
use Rattle.c_tree.specs.declared.TypedFunc.{TypedFunc}
use Rattle.c_tree.specs.declared.TypedProgram.{TypedProgram}
use Rattle.c_meaning_spec.specs.State.{State, nothing_told}
use Rattle.c_meaning_spec.specs.declared.signal.Signal.{Signal}
use Rattle.c_meaning_spec.specs.declared.signal.Signal.TheVariants.{Nothing, Returns}
use Rattle.bench_laws.specs.inside.Values.{value, letter, letters}
use Rattle.bench_laws.proofs.Terms.{Code}
use Rattle.bench_laws.proofs.Rules.{Runs, Follow, r_scalar, r_operation, r_convert, r_assign, r_call, r_cast, r_put}
use Rattle.bench_laws.proofs.Rules.{r_plain, r_next, r_last, r_give, r_number, r_initialise}
use Rattle.bench_laws.proofs.Words.{to_long, to_int, add_int, modulo_thousand, modulo_letters}
use Rattle.bench_laws.proofs.Trees.{InLine, onward, Offsets}
use Rattle.bench_laws.proofs.Programs.{function, functions, main, program, advance, show, calls, ending, main_code}
use Rattle.bench_laws.proofs.Loops.{more}
use Rattle.bench_laws.proofs.Functions.{partial, sums, function_steps, function_gives}

-- THE FUNCTIONS OF THE PROGRAM

at_end : (xs ys : List TypedFunc) (y : TypedFunc) → slice_get (xs ++ y ∷ ys) (length xs) ≡ Some y
at_end [] ys y = refl
at_end (x ∷ xs) ys y = at_end xs ys y

-- there are n of them below n
pub functions_count : (o : ℕ → InLine) (n : ℕ) → length (functions o n) ≡ n
functions_count o zero = refl
functions_count o (suc n) = length_snoc (functions o n) (function (o n) n) ∙ ap suc (functions_count o n)
  where
    length_snoc : (xs : List TypedFunc) (y : TypedFunc) → length (xs ++ y ∷ []) ≡ suc (length xs)
    length_snoc [] y = refl
    length_snoc (x ∷ xs) y = ap suc (length_snoc xs y)

-- function n stands behind those below n
pub function_behind : (o : ℕ → InLine) (n : ℕ) (ys : List TypedFunc) (y : TypedFunc) → slice_get (functions o n ++ y
    ∷ ys) n ≡ Some y
function_behind o n ys y =
    ap (λ (i : ℕ). slice_get (functions o n ++ y ∷ ys) i) (sym (functions_count o n)) ∙ at_end (functions o n) ys y

-- function k is the k-th
pub function_at : (o : ℕ → InLine) (n k : ℕ) (ys : List TypedFunc) → k < n → slice_get (functions o n ++ ys) k ≡ Some
    (function (o k) k)
function_at o zero k ys h = absurd (omega arith)
function_at o (suc n) k ys h =
    ap (λ (all : List TypedFunc). slice_get all k) (append_assoc (functions o n) (function (o n) n ∷ []) ys)
    ∙ go (λ l. function_at o n k (function (o n) n ∷ ys) l) (nat_eq k n) refl
  where
    go : (k < n → slice_get (functions o n ++ function (o n) n ∷ ys) k ≡ Some (function (o k) k))
        → (b : Bool) → nat_eq k n ≡ b → slice_get (functions o n ++ function (o n) n ∷ ys) k ≡ Some (function (o k) k)
    go earlier true e =
        let same : k ≡ n = grind (arith, nat_tests) in
        ap (λ (i : ℕ). slice_get (functions o n ++ function (o n) n ∷ ys) i) same ∙ function_behind o n ys (function
        (o n) n)
        ∙ ap (λ (i : ℕ). Some (function (o i) i)) (sym same)
    go earlier false e =
        let other : k ≡ n → ⊥ = grind (arith, nat_tests) in
        earlier (grind (arith, other))

-- ROUNDS

-- the state of main, with its x and the array
abbrev pub outside : List ℕ → List ℕ → Option ℕ → List (Option ℕ) → State
outside input output x row = record {
  stock = 0;
  input = input;
  output = output;
  scalars = x ∷ [];
  arrays = row ∷ [];
  rows = None ∷ [];
  base = 1;
  room = 152;
  told = nothing_told;
}

-- the array behind so many rounds
abbrev pub array_after : ℕ → List (Option ℕ)
array_after zero = replicate 16 (Some 0)
array_after (suc n) = sums (value n)

-- a value is below 1,000
pub value_below : (n : ℕ) → value n < 1000
value_below zero = omega arith
value_below (suc n) = omega arith

-- the steps of a round
abbrev pub round_steps : ℕ → ℕ
round_steps k = more 7 (function_steps (suc (more 9 k)))

module _ (o : Offsets) (N : ℕ) (input : List ℕ) (most : N ≤ 64) where
  -- x = fK(x) % 1000;
  advances : (l : InLine) (k x : ℕ) (output : List ℕ) (c0 c1 c2 c3 c4 c5 c6 c7 c8 c9 c10 c11 c12 c13 c14 c15 : Option
      ℕ) (j : ℕ)
      → k < N → x < 1000
      → Runs (program o N) (advance l k) (outside input output (Some x)
      (c0 ∷ c1 ∷ c2 ∷ c3 ∷ c4 ∷ c5 ∷ c6 ∷ c7 ∷ c8 ∷ c9 ∷ c10 ∷ c11 ∷ c12 ∷ c13 ∷ c14 ∷ c15 ∷ []))
      (more 7 (function_steps (suc j))) Nothing
      (outside input output (Some ((16 * x + 120 + k) % 1000)) (sums x)) j
  advances l k x output c0 c1 c2 c3 c4 c5 c6 c7 c8 c9 c10 c11 c12 c13 c14 c15 j below small =
      let is_other : nat_eq k N ≡ false = grind (arith, nat_tests) in
      let sum : partial x 15 + k ≡ 16 * x + 120 + k = omega arith in
      r_plain (r_assign (r_operation (λ rec a b s. refl)
      (r_call (r_scalar refl) (function_at o.functions N k (main o N ∷ []) below) is_other refl refl refl
      (function_gives (o.functions k) (program o N) input output 312 x k c0 c1 c2 c3 c4 c5 c6 c7 c8 c9 c10 c11
      c12 c13 c14 c15
      (suc j) small (omega arith)) refl)
      (r_convert (to_long 1000 (omega arith)))
      (modulo_thousand (partial x 15 + k) (omega arith) ∙ ap (λ (m : ℕ). Some (m % 1000)) sum)) refl refl)

  -- putchar(65 + (int) (x % 26));
  shows : (l : InLine) (x : ℕ) (output : List ℕ) (row : List (Option ℕ)) (j : ℕ) → x < 1000
      → Runs (program o N) (show l) (outside input output (Some x) row) (more 9 j) Nothing
      (outside input (output ++ letter x ∷ []) (Some x) row) j
  shows l x output row j small =
      let byte : (65 + x % 26) % 256 ≡ letter x = omega arith in
      r_plain (r_put (r_operation (λ rec a b s. refl) r_number
      (r_cast (r_operation (λ rec a b s. refl) (r_scalar refl) (r_convert (to_long 26 (omega arith)))
      (modulo_letters x (omega arith))) (to_int (x % 26) (omega arith))) (add_int 65 (x % 26) (omega arith)))
      (ap (λ (b : ℕ). outside input (output ++ b ∷ []) (Some x) row) byte))

  -- a round, and what follows it
  round_with : (l m : InLine) (k x : ℕ) (output : List ℕ) (c0 c1 c2 c3 c4 c5 c6 c7 c8 c9 c10 c11 c12 c13 c14 c15 :
      Option ℕ)
      (rest : List Code) (v : Signal) (u : State) (j h : ℕ)
      → k < N → x < 1000
      → Follow (program o N) rest (outside input (output ++ letter ((16 * x + 120 + k) % 1000) ∷ [])
      (Some ((16 * x + 120 + k) % 1000)) (sums x)) j v u h
      → Follow (program o N) (advance l k ∷ show m ∷ rest) (outside input output (Some x)
      (c0 ∷ c1 ∷ c2 ∷ c3 ∷ c4 ∷ c5 ∷ c6 ∷ c7 ∷ c8 ∷ c9 ∷ c10 ∷ c11 ∷ c12 ∷ c13 ∷ c14 ∷ c15 ∷ []))
      (round_steps j) v u h
  round_with l m k x output c0 c1 c2 c3 c4 c5 c6 c7 c8 c9 c10 c11 c12 c13 c14 c15 rest v u j h below
      small f =
      r_next (advances l k x output c0 c1 c2 c3 c4 c5 c6 c7 c8 c9 c10 c11 c12 c13 c14 c15 (more 9 j) below small)
      (r_next (shows m ((16 * x + 120 + k) % 1000) output (sums x) j (omega arith)) f)

  -- the same from the array that the rounds before it left
  pub round : (l m : InLine) (k : ℕ) (rest : List Code) (v : Signal) (u : State) (j h : ℕ) → k < N
      → Follow (program o N) rest (outside input (letters (suc k)) (Some (value (suc k))) (array_after (suc k))) j v u h
      → Follow (program o N) (advance l k ∷ show m ∷ rest)
      (outside input (letters k) (Some (value k)) (array_after k)) (round_steps j) v u h
  round l m zero rest v u j h below f =
      round_with l m zero 1 []
      (Some 0) (Some 0) (Some 0) (Some 0) (Some 0) (Some 0) (Some 0) (Some 0) (Some 0) (Some 0) (Some 0) (Some 0)
      (Some 0) (Some 0) (Some 0) (Some 0)
      rest v u j h below (omega arith) f
  round l m (suc n) rest v u j h below f =
      round_with l m (suc n) (value (suc n)) (letters (suc n))
      (Some (partial (value n) 0)) (Some (partial (value n) 1)) (Some (partial (value n) 2)) (Some (partial (value
      n) 3)) (Some (partial (value n) 4)) (Some (partial (value n) 5)) (Some (partial (value n) 6)) (Some (partial
      (value n) 7)) (Some (partial (value n) 8)) (Some (partial (value n) 9)) (Some (partial (value n) 10)) (Some
      (partial (value n) 11)) (Some (partial (value n) 12)) (Some (partial (value n) 13)) (Some (partial (value n)
      14)) (Some (partial (value n) 15))
      rest v u j h below (value_below (suc n)) f

-- the steps of so many rounds
abbrev pub rounds : ℕ → ℕ → ℕ
rounds zero k = k
rounds (suc n) k = rounds n (round_steps k)

-- all rounds below n, and what follows them
pub all_rounds : (o : Offsets) (N : ℕ) (input : List ℕ) → N ≤ 64 → (n : ℕ) → n ≤ N
    → (rest : List Code) (v : Signal) (u : State) (j h : ℕ)
    → Follow (program o N) rest (outside input (letters n) (Some (value n)) (array_after n)) j v u h
    → Follow (program o N) (calls o.calls n ++ rest) (outside input [] (Some 1) (array_after 0)) (rounds n j) v u h
all_rounds o N input most zero few rest v u j h f = f
all_rounds o N input most (suc n) few rest v u j h f =
    subst (λ (all : List Code). Follow (program o N) all (outside input [] (Some 1) (array_after 0))
    (rounds n (round_steps j))
    v u h) (sym (append_assoc (calls o.calls n) (advance (o.calls n) n ∷ show (onward 9 (o.calls n)) ∷ []) rest))
    (all_rounds o N input most n (omega arith) (advance (o.calls n) n ∷ show (onward 9 (o.calls n)) ∷ rest) v u
    (round_steps j) h
    (round o N input most (o.calls n) (onward 9 (o.calls n)) n rest v u j h (omega arith) f))

-- the steps of main
abbrev pub main_steps : ℕ → ℕ → ℕ
main_steps n k = more 2 (rounds n (more 3 k))

-- what main returns
pub main_gives : (o : Offsets) (N : ℕ) (input : List ℕ) → N ≤ 64 → (k : ℕ)
    → Follow (program o N) (main_code o N) (outside input [] None (array_after 0)) (main_steps N k)
    (Returns (Some (value N))) (outside input (letters N) (Some (value N)) (array_after N)) k
main_gives o N input most k =
    let small = value_below N in
    r_next (r_initialise refl refl (r_convert (to_long 1 (omega arith))) refl refl)
    (all_rounds o N input most N (omega arith) (ending o.ending) _ _ _ _
    (r_last (r_give (r_cast (r_scalar refl) (to_int (value N) (omega arith))))))
