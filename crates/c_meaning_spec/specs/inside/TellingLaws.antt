-- The laws of an evaluation with its places.
use Rattle.std.specs.Prelude.{◌≡◌, ℕ, List, [], Some}
use Rattle.c_tree.specs.declared.Callee.TheVariants.{Func}
use Rattle.c_tree.specs.declared.TypedExpr.{TypedExpr}
use Rattle.c_tree.specs.declared.TypedProgram.{TypedProgram}
use Rattle.c_meaning_spec.specs.declared.signal.Signal.{Signal}
use Rattle.c_meaning_spec.specs.declared.signal.Halt.{Halt}
use Rattle.c_meaning_spec.specs.State.{State, Result, Go, Over}
use Rattle.c_meaning_spec.specs.inside.Told.{bared}
use Rattle.c_meaning_spec.specs.Task.{Task, Of}
use Rattle.c_meaning_spec.specs.Call.{called}
use Rattle.c_meaning_spec.specs.Eval.{meaning, outcome, eval, fault, fault_of, start}
use Rattle.c_meaning_spec.specs.Telling.{telling, told_by}

-- what a task means with its places is what it does with its parts with theirs
abbrev pub TellsByParts : Type 0
TellsByParts = (P : TypedProgram) (t : Task) (s : State) → telling P t s ≡ told_by (telling P) P t s

-- with its places a task comes to the same, but for what is told
abbrev pub TellsAlike : Type 0
TellsAlike = (P : TypedProgram) (t : Task) (s : State) → bared (telling P t s) ≡ bared (meaning P t s)

-- going on tells nothing
abbrev pub GoingOnTellsNothing : Type 0
GoingOnTellsNothing =
    (P : TypedProgram) (t : Task) (s s' : State) (v : Signal) → telling P t s ≡ Go v s' → s'.told ≡ s.told

-- an expression that stops tells a place
abbrev pub StoppingIsPlaced : Type 0
StoppingIsPlaced =
    (P : TypedProgram) (e : TypedExpr) (s s' : State) (why : Halt) → telling P (Of e) s ≡ Over why s'
    → (at : ℕ) × (s'.told.at ≡ Some at)

-- the call of main, with its places
abbrev pub run_told : TypedProgram → List ℕ → ℕ → Result
run_told P input n = called (telling P) P (Func P.main) [] (start P input n)

-- the call of main with its places comes to the outcome of the evaluation
abbrev pub OutcomeIsTold : Type 0
OutcomeIsTold = (P : TypedProgram) (input : List ℕ) (n : ℕ) → outcome n (run_told P input n) ≡ eval P input n

-- and it is undefined for the reason of the evaluation
abbrev pub FaultIsTold : Type 0
FaultIsTold = (P : TypedProgram) (input : List ℕ) (n : ℕ) → fault_of (run_told P input n) ≡ fault P input n
