-- Beside what is believed of Laws.antt: the laws of an evaluation.
use Rattle.std.specs.Prelude.{◌≡◌, ℕ, ℤ, ◌+◌, ◌<◌, ◌≤◌, List, Some, None}
use Rattle.c_tree.specs.declared.Kind.TheVariants.{Int, Long}
use Rattle.c_tree.specs.declared.TypedProgram.{TypedProgram}
use Rattle.c_constant.specs.Kinds.{IsWord, converted}
use Rattle.c_meaning_spec.specs.declared.signal.Halt.TheVariants.{Exits}
use Rattle.c_meaning_spec.specs.declared.signal.Ending.TheVariants.{Undefined}
use Rattle.c_meaning_spec.specs.declared.fault.Fault.{Fault}
use Rattle.c_meaning_spec.specs.declared.fault.Fault.TheVariants.{Binary}
use Rattle.c_tree.specs.declared.Kind.{Kind}
use Rattle.c_tree.specs.declared.BinaryOp.{BinaryOp}
use Rattle.c_constant.specs.Kinds.{number}
use Rattle.c_constant.specs.Operation.{operate}
use Rattle.c_constant.specs.declared.causes.Cause.{Cause}
use Rattle.c_meaning_spec.specs.Word.{words_fault}
use Rattle.c_meaning_spec.specs.Rules.{Breaks}
use Rattle.c_meaning_spec.specs.declared.signal.Signal.TheVariants.{Value}
use Rattle.c_meaning_spec.specs.State.{State, Go, Over}
use Rattle.c_meaning_spec.specs.inside.Output.{IsPrefix}
use Rattle.c_meaning_spec.specs.Task.{Task}
use Rattle.c_meaning_spec.specs.Eval.{Outcome, Stopped, Done, perform, meaning, outcome, eval, fault}
use Rattle.c_meaning_spec.specs.Laws.{IsMore}

-- what was put out before an evaluation ended
abbrev pub output_in : Outcome → List ℕ
output_in (Stopped why out) = out
output_in (Done out result steps) = out

-- a result other than More stays with more steps
abbrev pub StaysWithMoreSteps : Type 0
StaysWithMoreSteps =
    (P : TypedProgram) (input : List ℕ) (n d : ℕ) → ¬ IsMore (eval P input n)
    → eval P input (n + d) ≡ eval P input n

-- the steps of Done are the least stock that gives it
abbrev pub StepsAreLeast : Type 0
StepsAreLeast =
    (P : TypedProgram) (input : List ℕ) (n : ℕ) (out : List ℕ) (result : ℤ) (steps : ℕ)
    → eval P input n ≡ Done out result steps
    → (steps ≤ n) × (eval P input steps ≡ Done out result steps)
    × ((k : ℕ) → k < steps → IsMore (eval P input k))

-- the output so far goes on with more steps
abbrev pub OutputGoesOn : Type 0
OutputGoesOn =
    (P : TypedProgram) (input : List ℕ) (n d : ℕ)
    → IsPrefix (output_in (eval P input n)) (output_in (eval P input (n + d)))

-- what a task means is what it does with the meaning of its parts
abbrev pub MeansByParts : Type 0
MeansByParts = (P : TypedProgram) (t : Task) (s : State) → meaning P t s ≡ perform (meaning P) P t s

-- a run that ends with an int, converted to long, comes to what it does where main returns the int
abbrev pub ExitsAsMainReturns : Type 0
ExitsAsMainReturns =
    (n w : ℕ) (s : State) → IsWord Int w
    → outcome n (Over (Exits (converted Long w)) s) ≡ outcome n (Go (Value w) s)

-- an evaluation that is undefined has a reason
abbrev pub UndefinedIsTold : Type 0
UndefinedIsTold =
    (P : TypedProgram) (input : List ℕ) (n : ℕ) (out : List ℕ) → eval P input n ≡ Stopped Undefined out
    → (c : Fault) × (fault P input n ≡ Some c)

-- an operation that has no value breaks the rule that is told
abbrev pub RuleIsBroken : Type 0
RuleIsBroken =
    (op : BinaryOp) (k : Kind) (a b : ℕ) → operate op k a b ≡ None
    → (c : Cause) × (words_fault op k a b ≡ Binary c op k a b) × Breaks c op (number k a) (number k b) k
