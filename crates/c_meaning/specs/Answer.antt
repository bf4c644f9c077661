-- The evaluator's answer: the definition's outcome, with the reason of one that is undefined, and what is told of
-- where it stopped.
use Rattle.std.specs.Prelude.{Option, Some, None}
use Rattle.c_meaning_spec.specs.declared.Ending.TheVariants as ending
use Rattle.c_meaning_spec.specs.declared.Fault.{Fault}
use Rattle.c_meaning_spec.specs.declared.Fault.TheVariants.{IllFormed}
use Rattle.c_meaning_spec.specs.State.{Told}
use Rattle.c_meaning_spec.specs.Eval.{Stopped}
use Rattle.c_meaning_spec.specs.Eval as meant
use Rattle.c_meaning.specs.declared.outcome.Outcome.{Outcome}
use Rattle.c_meaning.specs.declared.outcome.Outcome.TheVariants.{More, Undefined, Deep, Done}

-- the reason; an evaluation that is undefined has one (UndefinedIsTold)
abbrev pub reason : Option Fault → Fault
reason None = IllFormed
reason (Some c) = c

-- the outcome, with the reason where it is undefined, and what is told of where it stopped
abbrev pub answer : Option Fault → Told → meant.Outcome → Outcome
answer why told (Stopped ending.More output) = More output told.at told.calls
answer why told (Stopped ending.Undefined output) = Undefined output (reason why) told.at told.calls
answer why told (Stopped ending.Deep output) = Deep output told.at told.calls
answer why told (meant.Done output result steps) = Done output result steps
