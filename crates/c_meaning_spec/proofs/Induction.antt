-- For proofs over all evaluations, as those of a compiler's pass: no depth is seen.
use Rattle.std.proofs.Common.{◌≡◌, ℕ, zero, suc, ◌<◌, ◌≤◌, subst, arith}
use Rattle.c_tree.specs.declared.TypedProgram.{TypedProgram}
use Rattle.c_meaning_spec.specs.declared.signal.Signal.{Signal}
use Rattle.c_meaning_spec.specs.State.{State, Result, Go}
use Rattle.c_meaning_spec.specs.Task.{Task}
use Rattle.c_meaning_spec.specs.Eval.{meaning}
use Rattle.c_meaning_spec.proofs.Grows.{more, Grew}
use Rattle.c_meaning_spec.proofs.Equations.{weight, weight-some, meaning-more}

-- a part that goes on has spent a step
pub meaning-falls : (P : TypedProgram) (t : Task) (s : State) (v : Signal) (s' : State)
    → meaning P t s ≡ Go v s' → s'.stock < s.stock
meaning-falls P t s v s' e =
    let h : Grew 0 s.stock (Go v s') (meaning P t (more 0 s)) =
    subst (λ (r : Result). Grew 0 s.stock r (meaning P t (more 0 s))) e (meaning-more P 0 t s) in
    h.grows.1

module _ (Q : Task → State → Type 0) (parts : (t : Task) (s : State)
    → ((u : Task) (x : State) → weight u x.stock < weight t s.stock → Q u x) → Q t s) where
  below : (k : ℕ) (t : Task) (s : State) → weight t s.stock ≤ k → Q t s
  below zero t s h = let w = weight-some t s.stock in absurd (omega arith)
  below (suc k) t s h = parts t s (λ u x lt. below k u x (omega arith))

  -- what holds of a task wherever it holds of its parts holds of every task
  pub by-parts : (t : Task) (s : State) → Q t s
  by-parts t s = below (weight t s.stock) t s (omega arith)
