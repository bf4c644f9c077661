-- What the end of a compiled program's run says of its evaluation.
use Rattle.std.specs.Prelude.{◌≡◌, ℕ, ◌+◌, ◌*◌, ◌<◌, ◌≤◌, List, ◌++◌, Option, length, codes}
use Rattle.std.specs.Fmt.{signed_decimal}
use Rattle.trips_outside.specs.Outside.{Appended, Holds}
use Rattle.trips_isa.specs.declared.block.Image.{Image}
use Rattle.trips_isa.specs.Machine.{runs, start}
use Rattle.grid_cycle_spec.specs.Costs.{cost_of}
use Rattle.c_tree.specs.declared.typed.TypedProgram.{TypedProgram}
use Rattle.c_pre.specs.Texts.{Tokens, Lexed}
use Rattle.c_tree.specs.Limits.{most_tokens}
use Rattle.c_front.specs.Fronts.{IsAccepted}
use Rattle.c_meaning_spec.specs.declared.signal.Ending.TheVariants.{More, Undefined, Deep}
use Rattle.c_meaning_spec.specs.Eval.{Outcome, Stopped, Done, eval}
use Rattle.c_compile.specs.Meant.{DoesText}
use Rattle.trips_report.specs.declared.measured.Measured.{Measured}
use Rattle.trips_requests.specs.declared.status.Status.{Status}
use Rattle.trips_requests.specs.declared.status.Status.TheVariants as status
use Rattle.trips_answers.specs.Request.{Request, origin_held}
use Rattle.trips_answers.specs.Read.{HoldsInput}
use Rattle.trips_requests.specs.Texts.{output_and}
use Rattle.trips_answers.specs.Report.{CountsRun, ending_of, shown_behind}

-- Each status of a run and what the evaluation then came to, where that was given as many steps as the
-- run's blocks could do: a run ends only where it is done, has a full stack only where its frames are too
-- large, and traps never, unless it is undefined.
abbrev pub SaysOf : Status → Outcome → Type 0
SaysOf s (Stopped Undefined output) = Unit {0}
SaysOf status.Ended (Done output result steps) = Unit {0}
SaysOf status.Aborted (Done output result steps) = Unit {0}
SaysOf status.StackFull (Stopped Deep output) = Unit {0}
SaysOf status.Budget outcome = Unit {0}
SaysOf s outcome = ⊥

-- the evaluation goes on, or is undefined
abbrev pub HasNotEnded : Outcome → Type 0
HasNotEnded (Stopped More output) = Unit {0}
HasNotEnded (Stopped Undefined output) = Unit {0}
HasNotEnded outcome = ⊥

-- A run of a text ended with this status: the file is told to hold an accepted text, and the input is
-- told, as far as they are; and the status says so of the evaluation.
pub record RunEndsAs (held : List ℕ → Option (List ℕ)) (q : Request) (s : Status) : Type 0 where
  -- the C text of the request's file, and the bytes of its input
  pub text : List ℕ
  pub input : List ℕ
  pub holds : Holds (origin_held held q.origin) text
  pub holds_input : HoldsInput q.input held input
  -- the typed program that the front end makes of the text, which is what is evaluated
  pub program : TypedProgram
  pub accepted : IsAccepted text program
  -- the text's tokens; their number bounds the steps that one block does in a turn
  pub tokens : Tokens
  pub lexed : Lexed most_tokens text tokens
  -- a block does at most so many turns of a loop, and in each no more steps than the text has tokens
  pub says : (n : ℕ) → q.unroll * length tokens * (q.most + 1) < n → SaysOf s (eval program input n)
  -- the budget is spent only on what 16 blocks a step, and 16 more, do not end
  pub spent : s ≡ status.Budget → (n : ℕ) → 16 * n + 16 ≤ q.most
      → HasNotEnded (eval program input n)

-- An evaluation of so many steps, where a result of these digits is reported behind this output: it is undefined, or
-- done with that output and that result; or it has not been given as many steps as the run's blocks could do.
abbrev pub TellsResult : List ℕ → List ℕ → Type 0 → Outcome → Type 0
TellsResult output digits few (Stopped Undefined out) = Unit {0}
TellsResult output digits few (Stopped More out) = few
TellsResult output digits few (Stopped Deep out) = ⊥
TellsResult output digits few (Done out value steps) = (output ≡ out) × (digits ≡ signed_decimal value)

-- A run of a text was reported to have ended with a result: the file is told to hold an accepted text, and the input
-- is told, as far as they are; an image has run that does what the text means; and the evaluation of that text is
-- undefined, or done with the output and the result that are reported, whatever the budget.
pub record ResultTells (held : List ℕ → Option (List ℕ)) (q : Request) (old new : Option (List ℕ)) : Type 0 where
  -- the C text of the request's file, and the bytes of its input
  pub text : List ℕ
  pub input : List ℕ
  pub holds : Holds (origin_held held q.origin) text
  pub holds_input : HoldsInput q.input held input
  -- the typed program that the front end makes of the text, which is what is evaluated
  pub program : TypedProgram
  pub accepted : IsAccepted text program
  -- the text's tokens; their number bounds the steps that one block does in a turn
  pub tokens : Tokens
  pub lexed : Lexed most_tokens text tokens
  -- the image that has run
  pub image : Image
  pub does : DoesText text q.unroll image
  -- what was reported of its run: an output and the digits of a result, and behind them what is shown
  pub output : List ℕ
  pub digits : List ℕ
  pub measured : Measured
  pub counted : CountsRun image.blocks (runs image.blocks (start image.bytes input) q.most).0.trace q.show
      (ending_of (runs image.blocks (start image.bytes input) q.most).1
      (runs image.blocks (start image.bytes input) q.most).0.next) measured
  pub reported : Appended old new (shown_behind (output_and output (codes "result " ++ digits))
      (runs image.blocks (start image.bytes input) q.most).0 measured
      (cost_of image.blocks (runs image.blocks (start image.bytes input) q.most).0.trace) q.show)
  -- what the evaluation within any number of steps comes to
  pub means : (n : ℕ) → TellsResult output digits (n ≤ q.unroll * length tokens * (q.most + 1)) (eval program input n)
