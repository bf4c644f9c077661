-- Statements one behind another, and statements for which no step is left.
use Rattle.std.proofs.Common.{◌≡◌, ℕ, List, [], ◌∷◌, ◌++◌, refl, ap, ◌∙◌}
use Rattle.c_tree.specs.declared.TypedStmt.{TypedStmt, out-TypedStmt}
use Rattle.c_tree.specs.declared.TypedProgram.{TypedProgram}
use Rattle.c_meaning_spec.specs.declared.signal.Signal.{Signal}
use Rattle.c_meaning_spec.specs.declared.signal.Signal.TheVariants.{Nothing, Value, Breaks, Continues}
use Rattle.c_meaning_spec.specs.declared.signal.Signal.TheVariants.{Returns}
use Rattle.c_meaning_spec.specs.declared.signal.Ending.TheVariants.{More}
use Rattle.c_meaning_spec.specs.declared.signal.Halt.TheVariants.{NoStep}
use Rattle.c_meaning_spec.specs.State.{Result, Go, Over, spend_of}
use Rattle.c_meaning_spec.specs.inside.State.{then}
use Rattle.c_meaning_spec.specs.State as eval
use Rattle.c_meaning_spec.specs.Task as task
use Rattle.c_meaning_spec.specs.Statement.{going_on, sequence, begun}
use Rattle.c_meaning_spec.specs.Eval.{meaning}
use Rattle.c_meaning_spec.proofs.Equations.{meaning-is}
use Rattle.flat_lower.specs.inside.Emitted.{block_of}
use Rattle.flat_lower.specs.inside.FitsSwitches.{IsFilled}

module _ (P : TypedProgram) where
  -- statements and those behind them
  pub sequence_both : (xs ys : List TypedStmt) (s : eval.State) → sequence (meaning P) (xs ++ ys) s
      ≡ then (sequence (meaning P) xs s) (λ v s. going_on v s (sequence (meaning P) ys))
  sequence_both [] ys s = refl
  sequence_both (x ∷ xs) ys s = go (λ s. sequence_both xs ys s) (meaning P (task.Run x) s)
    where
      signalled : ((s : eval.State) → sequence (meaning P) (xs ++ ys) s
          ≡ then (sequence (meaning P) xs s) (λ v s. going_on v s (sequence (meaning P) ys)))
          → (v : Signal) (s : eval.State) → going_on v s (sequence (meaning P) (xs ++ ys))
          ≡ then (going_on v s (sequence (meaning P) xs)) (λ v s. going_on v s (sequence (meaning P) ys))
      signalled h Nothing s = h s
      signalled h (Value w) s = refl
      signalled h Breaks s = refl
      signalled h Continues s = refl
      signalled h (Returns w) s = refl

      go : ((s : eval.State) → sequence (meaning P) (xs ++ ys) s
          ≡ then (sequence (meaning P) xs s) (λ v s. going_on v s (sequence (meaning P) ys)))
          → (r : Result) → then r (λ v s. going_on v s (sequence (meaning P) (xs ++ ys)))
          ≡ then (then r (λ v s. going_on v s (sequence (meaning P) xs)))
          (λ v s. going_on v s (sequence (meaning P) ys))
      go h (Go v s) = signalled h v s
      go h (Over why s) = refl

  -- no step is left for a statement
  no_step : (st : TypedStmt) (s : eval.State) → s.stock ≡ 0 → meaning P (task.Run st) s ≡ Over NoStep s
  no_step st s e =
      meaning-is P (task.Run st) s
      ∙ ap (λ k. spend_of k s (begun (meaning P) (out-TypedStmt st))) e

  -- statements of which one takes a step give More where no step is left
  pub no_steps : (all : List TypedStmt) (s : eval.State) → s.stock ≡ 0 → IsFilled (block_of all)
      → sequence (meaning P) all s ≡ Over NoStep s
  no_steps [] s e h = absurd h
  no_steps (st ∷ rest) s e h =
      ap (λ r. then r (λ v s. going_on v s (sequence (meaning P) rest))) (no_step st s e)
