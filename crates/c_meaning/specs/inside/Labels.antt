-- What comparing the labels of a switch comes to.
use Rattle.std.specs.Prelude.{ℕ, List}
use Rattle.c_tree.specs.declared.TypedProgram.{TypedProgram}
use Rattle.c_tree.specs.declared.TypedStmt.{TypedStmt}
use Rattle.c_meaning_spec.specs.declared.Halt.TheVariants.{NoStep}
use Rattle.c_meaning_spec.specs.declared.Signal.TheVariants.{Nothing}
use Rattle.c_meaning_spec.specs.State.{State, Result, Go, Over}
use Rattle.c_meaning_spec.specs.Statement.{Target, bodies, compared, run_from}
use Rattle.c_meaning_spec.specs.Telling.{telling}
use Rattle.c_meaning.specs.declared.compare.Compared.{Compared}
use Rattle.c_meaning.specs.declared.compare.Compared.TheVariants as compared_to

-- what is done after some labels, where others are behind them: the statements here are run, no step was
-- left, or the other labels are compared
abbrev pub goes_on : TypedProgram → Compared → ℕ → List Target → List TypedStmt → State → Result
goes_on P compared_to.Found w ts here s = run_from (telling P) here s
goes_on P compared_to.Spent w ts here s = Over NoStep s
goes_on P (compared_to.Passed other) w ts here s = compared (telling P) w ts (bodies other.now) s

-- what is done after all labels of a switch: the statements of these sections are run, or no step was left
abbrev pub found : TypedProgram → Compared → State → Result
found P compared_to.Found s = Go Nothing s
found P compared_to.Spent s = Over NoStep s
found P (compared_to.Passed here) s = run_from (telling P) (bodies here.now) s
