-- A function of the benchmark: what its two loops make of the array, and what it returns.
use Rattle.std.proofs.Common.{◌≡◌, ℕ, zero, suc, ◌+◌, ◌*◌, ◌^◌, ◌<◌, List, [], ◌∷◌, Option, Some, None, refl, arith}
use Rattle.std.proofs.Common.{subst}
use Rattle.std.specs.Prelude.{slice_get, slice_set}
use Rattle.c_tree.specs.declared.Kind.TheVariants.{Int, Long}
use Rattle.c_tree.specs.declared.BinaryOp.TheVariants.{Less, Add, Subtract}
use Rattle.c_tree.specs.declared.TypedProgram.{TypedProgram}
use Rattle.c_constant.specs.Operation.{operate}
use Rattle.c_constant.specs.Kinds.{converted}
use Rattle.c_meaning_spec.specs.State.{State, nothing_told}
use Rattle.c_meaning_spec.specs.declared.signal.Signal.TheVariants.{Nothing, Returns}
use Rattle.bench_laws.proofs.Rules.{Turns, Runs, Follow, r_scalar, r_operation, r_convert, r_assign, r_set, r_element}
use Rattle.bench_laws.proofs.Rules.{r_plain, r_turn, r_end, r_loop, r_next, r_last, r_declare, r_give, r_number}
use Rattle.bench_laws.proofs.Words.{add_long, to_long}
use Rattle.bench_laws.proofs.Trees.{InLine}
use Rattle.bench_laws.proofs.Programs.{below_16, step, fill, add_up, function_code}

-- so many more
abbrev pub more : ℕ → ℕ → ℕ
more zero k = k
more (suc n) k = suc (more n k)

-- the state of a function whose argument is x, with its i and the array
abbrev pub inside : List ℕ → List ℕ → ℕ → ℕ → Option ℕ → List (Option ℕ) → State
inside input output room x i row = record {
  stock = 0;
  input = input;
  output = output;
  scalars = Some x ∷ i ∷ [];
  arrays = row ∷ [];
  rows = None ∷ [];
  base = 1;
  room = room;
  told = nothing_told;
}

module _ (P : TypedProgram) (input output : List ℕ) (room x : ℕ) where
  -- a turn of the first loop
  pub fill_turn : (a b c : InLine) (i j : ℕ) (row : List (Option ℕ)) (old : Option ℕ) (u : State) (k h : ℕ)
      → operate Less Long i 16 ≡ Some 1 → operate Add Long i 1 ≡ Some j → x + i < 2 ^ 63
      → slice_get row i ≡ Some old
      → Turns P (below_16 a) (step b) (fill c) (inside input output room x (Some j) (slice_set row i (Some (x + i))))
      k u h
      → Turns P (below_16 a) (step b) (fill c) (inside input output room x (Some i) row) (more 13 k) u h
  fill_turn a b c i j row old u k h less next fits is_old rest =
      r_turn
      (r_operation (λ rec a b s. refl) (r_scalar refl) (r_convert (to_long 16 (omega arith))) less)
      (r_plain (r_set (r_scalar refl)
      (r_operation (λ rec a b s. refl) (r_scalar refl) (r_scalar refl) (add_long x i fits))
      refl is_old refl))
      (r_assign (r_operation (λ rec a b s. refl) (r_scalar refl) (r_convert (to_long 1 (omega arith))) next)
      refl refl)
      rest

  -- a turn of the second loop
  pub add_turn : (p q r : InLine) (i j l a b : ℕ) (row : List (Option ℕ)) (u : State) (k h : ℕ)
      → operate Less Long i 16 ≡ Some 1 → operate Add Long i 1 ≡ Some j → operate Subtract Long i 1 ≡ Some l
      → a + b < 2 ^ 63 → slice_get row i ≡ Some (Some a) → slice_get row l ≡ Some (Some b)
      → Turns P (below_16 p) (step q) (add_up r) (inside input output room x (Some j) (slice_set row i (Some (a +
      b)))) k u h
      → Turns P (below_16 p) (step q) (add_up r) (inside input output room x (Some i) row) (more 17 k) u h
  add_turn p q r i j l a b row u k h less next before fits is_a is_b rest =
      r_turn
      (r_operation (λ rec a b s. refl) (r_scalar refl) (r_convert (to_long 16 (omega arith))) less)
      (r_plain (r_set (r_scalar refl) (r_operation (λ rec a b s. refl) (r_element (r_scalar refl) refl is_a)
      (r_element (r_operation (λ rec a b s. refl) (r_scalar refl) (r_convert (to_long 1 (omega arith))) before)
      refl is_b)
      (add_long a b fits)) refl is_a refl))
      (r_assign (r_operation (λ rec a b s. refl) (r_scalar refl) (r_convert (to_long 1 (omega arith))) next)
      refl refl)
      rest
