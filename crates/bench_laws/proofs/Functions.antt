-- A function of the benchmark whole: its loops turn by turn, and what it returns.
use Rattle.std.proofs.Common.{◌≡◌, ℕ, zero, suc, ◌+◌, ◌*◌, ◌^◌, ◌<◌, List, [], ◌∷◌, Option, Some, None, refl, arith}
use Rattle.c_tree.specs.declared.Kind.TheVariants.{Int, Long}
use Rattle.c_tree.specs.declared.TypedProgram.{TypedProgram}
use Rattle.c_constant.specs.Operation.{operate}
use Rattle.c_meaning_spec.specs.State.{State}
use Rattle.c_meaning_spec.specs.declared.signal.Signal.TheVariants.{Nothing, Returns}
use Rattle.bench_laws.proofs.Rules.{Turns, Runs, Follow, r_scalar, r_operation, r_convert, r_assign, r_element}
use Rattle.bench_laws.proofs.Rules.{r_end, r_loop, r_next, r_last, r_declare, r_give, r_number}
use Rattle.bench_laws.proofs.Terms.{convert, assign, loop}
use Rattle.bench_laws.proofs.Words.{add_long, to_long}
use Rattle.bench_laws.proofs.Trees.{InLine, onward}
use Rattle.bench_laws.proofs.Programs.{below_16, step, fill, add_up, function_code}
use Rattle.bench_laws.proofs.Loops.{more, inside, fill_turn, add_turn}

-- the steps of so many turns of the first loop, and of the second
abbrev pub fills : ℕ → ℕ → ℕ
fills zero k = k
fills (suc n) k = more 13 (fills n k)

abbrev pub adds : ℕ → ℕ → ℕ
adds zero k = k
adds (suc n) k = more 17 (adds n k)

-- the sum of x to x + i
abbrev pub partial : ℕ → ℕ → ℕ
partial x zero = x + 0
partial x (suc i) = (x + suc i) + partial x i

-- the array behind the first loop, and behind the second
abbrev pub filled : ℕ → List (Option ℕ)
filled x =
    Some (x + 0) ∷ Some (x + 1) ∷ Some (x + 2) ∷ Some (x + 3) ∷ Some (x + 4) ∷ Some (x + 5) ∷ Some (x + 6) ∷ Some
    (x + 7) ∷ Some (x + 8) ∷ Some (x + 9) ∷ Some (x + 10) ∷ Some (x + 11) ∷ Some (x + 12) ∷ Some (x + 13) ∷ Some (x
    + 14) ∷ Some (x + 15) ∷ []

-- the array behind the second loop: the sums of its first elements
abbrev pub sums : ℕ → List (Option ℕ)
sums x =
    Some (partial x 0) ∷ Some (partial x 1) ∷ Some (partial x 2) ∷ Some (partial x 3) ∷ Some (partial x 4) ∷ Some
    (partial x 5) ∷ Some (partial x 6) ∷ Some (partial x 7) ∷ Some (partial x 8) ∷ Some (partial x 9) ∷ Some
    (partial x 10) ∷ Some (partial x 11) ∷ Some (partial x 12) ∷ Some (partial x 13) ∷ Some (partial x 14) ∷ Some
    (partial x 15) ∷ []

-- all turns of the first loop
pub fill_all : (a b c : InLine) (P : TypedProgram) (input output : List ℕ) (room x : ℕ)
    (c0 c1 c2 c3 c4 c5 c6 c7 c8 c9 c10 c11 c12 c13 c14 c15 : Option ℕ)
    (u : State) (k h : ℕ) → x < 1000
    → Turns P (below_16 a) (step b) (fill c) (inside input output room x (Some 16) (filled x)) k u h
    → Turns P (below_16 a) (step b) (fill c) (inside input output room x (Some 0)
    (c0 ∷ c1 ∷ c2 ∷ c3 ∷ c4 ∷ c5 ∷ c6 ∷ c7 ∷ c8 ∷ c9 ∷ c10 ∷ c11 ∷ c12 ∷ c13 ∷ c14 ∷ c15 ∷ [])) (fills 16 k) u h
unfolding operate
fill_all a b c P input output room x c0 c1 c2 c3 c4 c5 c6 c7 c8 c9 c10 c11 c12 c13 c14 c15 u k h
    small rest =
    fill_turn P input output room x a b c 0 1 _ c0 u _ h refl refl (omega arith) refl (fill_turn P input output room
    x a b c 1
    2 _ c1 u _ h refl refl (omega arith) refl (fill_turn P input output room x a b c 2 3 _ c2 u _ h
    refl refl (omega
    arith) refl (fill_turn P input output room x a b c 3 4 _ c3 u _ h refl refl (omega arith) refl
    (fill_turn P input output room x a b c 4 5 _ c4 u _ h refl refl (omega arith) refl (fill_turn P input output room
    x a b c 5 6 _ c5 u _ h refl
    refl (omega arith) refl (fill_turn P input output room x a b c 6 7 _ c6 u _ h refl refl (omega
    arith) refl (fill_turn P input output room x a b c 7 8 _ c7 u _ h refl refl (omega arith) refl
    (fill_turn P input output room x a b c 8 9 _ c8 u _
    h refl refl (omega arith) refl (fill_turn P input output room x a b c 9 10 _ c9 u _ h refl refl
    (omega arith) refl
    (fill_turn P input output room x a b c 10 11 _ c10 u _ h refl refl (omega arith) refl
    (fill_turn P input output room x a b c 11 12 _ c11 u _ h refl refl (omega arith) refl (fill_turn P input output
    room x a b c 12 13 _
    c12 u _ h refl refl
    (omega arith) refl (fill_turn P input output room x a b c 13 14 _ c13 u _ h refl refl (omega
    arith) refl (fill_turn P input output room x a b c 14 15 _ c14 u _ h refl refl (omega arith) refl (fill_turn P
    input output room x a b c 15 16 _ c15
    u _ h refl refl (omega arith) refl (rest))))))))))))))))

-- all turns of the second
pub add_all : (a b c : InLine) (P : TypedProgram) (input output : List ℕ) (room x : ℕ) (u : State) (k h : ℕ) → x < 1000
    → Turns P (below_16 a) (step b) (add_up c) (inside input output room x (Some 16) (sums x)) k u h
    → Turns P (below_16 a) (step b) (add_up c) (inside input output room x (Some 1) (filled x)) (adds 15 k) u h
unfolding operate
add_all a b c P input output room x u k h small rest =
    add_turn P input output room x a b c 1 2 0 (x + 1) (partial x 0) _ u _ h refl refl refl (omega
    arith) refl refl
    (add_turn P input output room x a b c 2 3 1 (x + 2) (partial x 1) _ u _ h refl refl refl (omega
    arith) refl refl
    (add_turn P input output room x a b c 3 4 2 (x + 3) (partial x 2) _ u _ h refl refl refl (omega
    arith) refl refl
    (add_turn P input output room x a b c 4 5 3 (x + 4) (partial x 3) _ u _ h refl refl refl (omega
    arith) refl refl
    (add_turn P input output room x a b c 5 6 4 (x + 5) (partial x 4) _ u _ h refl refl refl (omega
    arith) refl refl
    (add_turn P input output room x a b c 6 7 5 (x + 6) (partial x 5) _ u _ h refl refl refl (omega
    arith) refl refl
    (add_turn P input output room x a b c 7 8 6 (x + 7) (partial x 6) _ u _ h refl refl refl (omega
    arith) refl refl
    (add_turn P input output room x a b c 8 9 7 (x + 8) (partial x 7) _ u _ h refl refl refl (omega
    arith) refl refl
    (add_turn P input output room x a b c 9 10 8 (x + 9) (partial x 8) _ u _ h refl refl refl
    (omega arith) refl refl
    (add_turn P input output room x a b c 10 11 9 (x + 10) (partial x 9) _ u _ h refl refl refl
    (omega arith) refl refl
    (add_turn P input output room x a b c 11 12 10 (x + 11) (partial x 10) _ u _ h refl refl refl
    (omega arith) refl refl
    (add_turn P input output room x a b c 12 13 11 (x + 12) (partial x 11) _ u _ h refl refl refl
    (omega arith) refl refl
    (add_turn P input output room x a b c 13 14 12 (x + 13) (partial x 12) _ u _ h refl refl refl
    (omega arith) refl refl
    (add_turn P input output room x a b c 14 15 13 (x + 14) (partial x 13) _ u _ h refl refl refl
    (omega arith) refl refl
    (add_turn P input output room x a b c 15 16 14 (x + 15) (partial x 14) _ u _ h refl refl refl
    (omega arith) refl refl
    (rest)))))))))))))))

-- the steps of a function's body
abbrev pub function_steps : ℕ → ℕ
function_steps k = suc (more 3 (fills 16 (more 3 (more 3 (adds 15 (more 3 (more 5 k)))))))

-- what the body of function n returns of x, whatever the array held
pub function_gives : (l : InLine) (P : TypedProgram) (input output : List ℕ) (room x n : ℕ)
    (c0 c1 c2 c3 c4 c5 c6 c7 c8 c9 c10 c11 c12 c13 c14 c15 : Option ℕ)
    (k : ℕ) → x < 1000 → n < 64
    → Follow P (function_code l n) (inside input output room x None
    (c0 ∷ c1 ∷ c2 ∷ c3 ∷ c4 ∷ c5 ∷ c6 ∷ c7 ∷ c8 ∷ c9 ∷ c10 ∷ c11 ∷ c12 ∷ c13 ∷ c14 ∷ c15 ∷ [])) (function_steps k)
    (Returns (Some (partial x 15 + n)))
    (inside input output room x (Some 16) (sums x)) k
unfolding operate
function_gives l P input output room x n c0 c1 c2 c3 c4 c5 c6 c7 c8 c9 c10 c11 c12 c13 c14 c15 k small few =
    r_next (r_declare refl refl)
    (r_next (r_loop (r_assign (r_convert (to_long 0 (omega arith))) refl refl)
    (fill_all (onward 16 l) (onward 20 l) (onward 26 l) P input output room x c0 c1 c2 c3 c4 c5 c6 c7 c8
    c9 c10 c11 c12 c13 c14 c15 _ _ _ small
    (r_end (r_operation (λ rec a b s. refl) (r_scalar refl) (r_convert (to_long 16 (omega arith))) refl))))
    (r_next (r_loop (r_assign (r_convert (to_long 1 (omega arith))) refl refl)
    (add_all (onward 41 l) (onward 45 l) (onward 51 l) P input output room x _ _ _ small
    (r_end (r_operation (λ rec a b s. refl) (r_scalar refl) (r_convert (to_long 16 (omega arith))) refl))))
    (r_last (r_give (r_operation (λ rec a b s. refl) (r_element r_number refl refl)
    (r_convert (to_long n (omega arith))) (add_long (partial x 15) n (omega arith)))))))
