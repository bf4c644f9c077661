-- The evaluation of a program on an input with a stock of steps.
use Rattle.std.specs.Prelude.{ℕ, zero, suc, ℤ, ◌+◌, ◌-◌, ◌*◌, List, [], ◌++◌, map, Option, Some}
use Rattle.std.specs.Prelude.{None, length, replicate}
use Rattle.c_tree.specs.declared.Kind.TheVariants.{Int, Long}
use Rattle.c_tree.specs.declared.Callee.TheVariants.{Func}
use Rattle.c_tree.specs.TypedTrees.{node_of}
use Rattle.c_tree.specs.declared.TypedGlobal.{TypedGlobal}
use Rattle.c_tree.specs.declared.TypedProgram.{TypedProgram}
use Rattle.c_tree.specs.declared.TypedStmt.{out-TypedStmt}
use Rattle.c_meaning_spec.specs.declared.signal.Signal.{Signal}
use Rattle.c_meaning_spec.specs.declared.signal.Signal.TheVariants.{Value}
use Rattle.c_meaning_spec.specs.declared.signal.Ending.{Ending}
use Rattle.c_meaning_spec.specs.declared.signal.Ending.TheVariants.{More, Undefined, Deep}
use Rattle.c_meaning_spec.specs.declared.signal.Halt.TheVariants.{NoStep, TooDeep, Faults, Exits}
use Rattle.c_meaning_spec.specs.declared.fault.Fault.{Fault}
use Rattle.c_meaning_spec.specs.declared.fault.Fault.TheVariants.{NoValue}
use Rattle.c_meaning_spec.specs.State.{State, Result, Go, Over, nothing_told}
use Rattle.c_constant.specs.Kinds.{number, converted}
use Rattle.c_meaning_spec.specs.Task.{Task, Of, Run, Turn, Parts}
use Rattle.c_meaning_spec.specs.Call.{called}
use Rattle.c_meaning_spec.specs.Expression.{expression}
use Rattle.c_meaning_spec.specs.Statement.{statement, turn}

-- what a task does, where rec evaluates its parts
abbrev pub perform : Parts → TypedProgram → Task → State → Result
perform rec P (Of e) s = expression rec P (node_of e) s
perform rec P (Run st) s = statement rec (out-TypedStmt st) s
perform rec P (Turn test post body) s = turn rec test post body s

-- Evaluation to a depth of k parts. Each part but a loop's turn spends a step before its own, so 2
-- n + 2 is enough for n steps; no more of the depth is seen by the law `meaning P t s ≡ perform
-- (meaning P) P t s`.
unfoldable pub evaluated : ℕ → TypedProgram → Task → State → Result
evaluated zero P t s = Over NoStep s
evaluated (suc k) P t s = perform (evaluated k P) P t s

-- the depth that is enough for n steps
abbrev pub enough : ℕ → ℕ
enough n = 2 * n + 2

-- what a task means
unfoldable pub meaning : TypedProgram → Task → State → Result
meaning P t s = evaluated (enough s.stock) P t s

-- THE PROGRAM

-- how many cells a global has
abbrev pub length_of : Option ℕ → ℕ
length_of None = 1
length_of (Some n) = n

-- a global starts with the values given, and then zeros
abbrev pub first_cells : TypedGlobal → List (Option ℕ)
first_cells g = map Some g.init ++ replicate (length_of g.length - length g.init) (Some 0)

-- the second size of a global, if it has two
abbrev pub global_row : TypedGlobal → Option ℕ
global_row g = g.row

-- the state before the call of main
abbrev pub start : TypedProgram → List ℕ → ℕ → State
start P input n = record {
  stock = n;
  input = input;
  output = [];
  scalars = [];
  arrays = map first_cells P.globals;
  rows = map global_row P.globals;
  base = 0;
  room = 0;
  told = nothing_told;
}

-- how an evaluation ends, with the output so far
pub data Outcome : Type 0 where
  Stopped : (why : Ending) (output : List ℕ) → Outcome
  Done : (output : List ℕ) (result : ℤ) (steps : ℕ) → Outcome

-- the end of the call of main: the value that it gives, as an int; another function that stands for
-- main may give none
abbrev pub ended : Signal → List ℕ → ℕ → Outcome
ended (Value w) output steps = Done output (number Int (converted Int w)) steps
ended _ output steps = Stopped Undefined output

-- What the call of main comes to, of a stock of n. A call that ends the run gives its argument, a long: `exit(e)`
-- hands on its int, and so gives what main's return of e does (C17 5.1.2.2.3; the law `ExitsAsMainReturns`), and
-- `abort()` the least long, which no int is.
abbrev pub outcome : ℕ → Result → Outcome
outcome n (Over NoStep s) = Stopped More s.output
outcome n (Over TooDeep s) = Stopped Deep s.output
outcome n (Over (Faults c) s) = Stopped Undefined s.output
outcome n (Over (Exits w) s) = Done s.output (number Long w) (n - s.stock)
outcome n (Go v s) = ended v s.output (n - s.stock)

-- the call of main
unfoldable pub eval : TypedProgram → List ℕ → ℕ → Outcome
eval P input n = outcome n (called (meaning P) P (Func P.main) [] (start P input n))

-- WHY IT IS UNDEFINED

-- why the end of main is undefined: the value is taken of what gave none
abbrev pub ended_fault : Signal → Option Fault
ended_fault (Value w) = None
ended_fault _ = Some NoValue

-- why what the call of main comes to is undefined, none where it is not
abbrev pub fault_of : Result → Option Fault
fault_of (Over (Faults c) s) = Some c
fault_of (Over NoStep s) = None
fault_of (Over TooDeep s) = None
fault_of (Over (Exits w) s) = None
fault_of (Go v s) = ended_fault v

-- why an evaluation is undefined, none where it is not
unfoldable pub fault : TypedProgram → List ℕ → ℕ → Option Fault
fault P input n = fault_of (called (meaning P) P (Func P.main) [] (start P input n))
