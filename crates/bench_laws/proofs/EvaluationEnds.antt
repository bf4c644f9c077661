-- The evaluation of the benchmark: how many steps it takes, and how it ends.
use Rattle.std.proofs.Common.{◌≡◌, ℕ, zero, suc, ◌+◌, ◌-◌, ◌*◌, ◌≤◌, ℤ, pos, Bool, true, cond, List, [], ◌∷◌}
use Rattle.std.proofs.Common.{◌++◌, Option}
use Rattle.std.proofs.Common.{Some, refl, sym, ap, ◌∙◌, arith, nat_eq, length}
use Rattle.std.specs.Prelude.{slice_get}
use Rattle.std.proofs.lemmas.Bool.Decides.{nat_tests}
use Rattle.c_tree.specs.declared.Kind.TheVariants.{Int}
use Rattle.c_tree.specs.declared.TypedFunc.{TypedFunc}
use Rattle.c_tree.specs.declared.TypedProgram.{TypedProgram}
use Rattle.c_constant.specs.Kinds.{number, converted}
use Rattle.c_meaning_spec.specs.State.{State, Result, spend}
use Rattle.c_meaning_spec.specs.inside.State.{then}
use Rattle.c_meaning_spec.specs.Call.{enter, left}
use Rattle.c_meaning_spec.specs.Eval.{meaning, eval, Done, Outcome, outcome, start}
use Rattle.bench_laws.specs.inside.Values.{value, letters, steps}
use Rattle.bench_laws.proofs.Rules.{Follow, body_gives}
use Rattle.bench_laws.proofs.Words.{to_int, int_is}
use Rattle.bench_laws.proofs.Trees.{Offsets}
use Rattle.bench_laws.proofs.Programs.{main, program, functions, main_code}
use Rattle.bench_laws.proofs.Functions.{function_steps}
use Rattle.bench_laws.proofs.Rounds.{value_below, function_behind, round_steps, rounds, main_steps}
use Rattle.bench_laws.proofs.Rounds.{main_gives, outside}
use Rattle.bench_laws.proofs.Rounds.{array_after}

-- a round takes 498 steps
round_is : (k : ℕ) → round_steps k ≡ 498 + k
round_is k = omega arith

rounds_are : (n k : ℕ) → rounds n k ≡ 498 * n + k
rounds_are zero k = omega arith
rounds_are (suc n) k = rounds_are n (round_steps k) ∙ ap (λ m. 498 * n + m) (round_is k) ∙ omega arith

-- all steps, with some left
main_are : (n k : ℕ) → suc (suc (main_steps n k)) ≡ steps n + k
main_are n k = let r : rounds n (suc (suc (suc k))) ≡ 498 * n + suc (suc (suc k)) =
    rounds_are n (suc (suc (suc k))) in
    omega arith

-- the evaluation where so many steps are left over
exactly : (o : Offsets) (n : ℕ) (input : List ℕ) (k : ℕ) → n ≤ 64
    → eval (program o n) input (suc (suc (main_steps n k))) ≡ Done (letters n) (pos (value n)) (steps n)
unfolding eval
exactly o n input k few =
    let m = suc (suc (main_steps n k)) in
    let P = program o n in
    let small = value_below n in
    let e = main_are n k in
    let s : State = record (start P input m) { stock = suc (main_steps n k) } in
    let same : nat_eq n n ≡ true = grind (arith, nat_tests) in
    ap (λ (b : Bool). outcome m (enter (meaning P) b (slice_get P.functions n) [] s)) same
    ∙ ap (λ (f : Option TypedFunc). outcome m (enter (meaning P) true f [] s)) (function_behind o.functions n []
    (main o n))
    ∙ ap (λ (r : Result). outcome m (then r (left true [] 1 0 0)))
    (body_gives (main_gives o n input few k))
    ∙ ap (λ w. Done (letters n) (number Int w) (m - k)) (to_int (value n) (omega arith))
    ∙ ap (λ z. Done (letters n) z (m - k)) (int_is (value n) (omega arith))
    ∙ ap (λ c. Done (letters n) (pos (value n)) c) (omega arith)

-- the evaluation with enough steps
pub ends : (o : Offsets) (n : ℕ) (input : List ℕ) (m : ℕ) → n ≤ 64 → steps n ≤ m
    → eval (program o n) input m ≡ Done (letters n) (pos (value n)) (steps n)
ends o n input m few enough =
    let e = main_are n (m - steps n) in
    let all : m ≡ suc (suc (main_steps n (m - steps n))) = omega arith in
    ap (λ k. eval (program o n) input k) all ∙ exactly o n input (m - steps n) few
