-- What the report of the run of an image says that does what a text means.
use Rattle.std.specs.Prelude.{◌≡◌, ℕ, ℤ, ◌+◌, ◌*◌, ◌≤◌, List}
use Rattle.trips_isa.specs.declared.block.Image.{Image}
use Rattle.trips_isa.specs.Machine.{runs, start}
use Rattle.c_tree.specs.declared.typed.TypedProgram.{TypedProgram}
use Rattle.c_front.specs.Fronts.{IsAccepted}
use Rattle.c_meaning_spec.specs.declared.signal.Ending.TheVariants.{Deep}
use Rattle.c_meaning_spec.specs.Eval.{Stopped, Done, eval}
use Rattle.c_meaning_spec.specs.Laws.{IsInput}
use Rattle.c_compile.specs.Meant.{DoesText}
use Rattle.grid_cycle_spec.specs.Costs.{cost_of}
use Rattle.trips_report.specs.declared.show.Show.{Show}
use Rattle.trips_requests.specs.declared.status.Status.{Status}
use Rattle.trips_requests.specs.declared.status.Status.TheVariants as status
use Rattle.trips_requests.specs.Results.{result_status}
use Rattle.trips_answers.specs.Asks.{ended_report}
use Rattle.trips_answers.specs.Report.{TellsRun, full_report, shown_behind}

-- where the evaluation is done within n steps and the budget is at least 16 n + 16 blocks, its output and its result
-- are told, and behind them what is shown
abbrev pub TellsDone : Type 0
TellsDone =
    (text input output : List ℕ) (turns : ℕ) (image : Image) (program : TypedProgram) (value : ℤ) (most n steps : ℕ)
    (show : Show)
    (s : Status) (report : List ℕ) → DoesText text turns image → IsAccepted text program → IsInput input
    → eval program input n ≡ Done output value steps → 16 * n + 16 ≤ most
    → (told : TellsRun image input most show s report)
    → let run = runs image.blocks (start image.bytes input) most in (s ≡ result_status value)
    × (report ≡ shown_behind (ended_report output value) run.0 told.0 (cost_of image.blocks run.0.trace) show)

-- where it is too deep within n steps, a full stack is, with the output so far
abbrev pub TellsDeep : Type 0
TellsDeep =
    (text input output : List ℕ) (turns : ℕ) (image : Image) (program : TypedProgram) (most n : ℕ) (show : Show)
    (s : Status)
    (report : List ℕ) → DoesText text turns image → IsAccepted text program → IsInput input
    → eval program input n ≡ Stopped Deep output → 16 * n + 16 ≤ most
    → (told : TellsRun image input most show s report)
    → let run = runs image.blocks (start image.bytes input) most in (s ≡ status.StackFull)
    × (report ≡ shown_behind (full_report output) run.0 told.0 (cost_of image.blocks run.0.trace) show)
