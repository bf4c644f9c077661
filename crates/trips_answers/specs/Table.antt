-- What a call of the program answered and wrote, status by status.
use Rattle.std.specs.Prelude.{◌≡◌, ℕ, List, Option, Some}
use Rattle.trips_outside.specs.Outside.{Appended, Holds}
use Rattle.trips_isa.specs.declared.block.Block.{Block}
use Rattle.trips_isa.specs.declared.block.Image.{Image}
use Rattle.trips_isa.specs.Machine.{State, runs, start}
use Rattle.grid_cycle_spec.specs.Costs.{cost_of}
use Rattle.trips_report.specs.declared.measured.Measured.{Measured}
use Rattle.trips_answers.specs.Work.{Evaluate}
use Rattle.trips_answers.specs.declared.forms.Settings.{Settings}
use Rattle.trips_requests.specs.declared.status.Status.{Status}
use Rattle.trips_requests.specs.Table.{IsWritten}
use Rattle.trips_answers.specs.Request.{Request, origin_held}
use Rattle.trips_answers.specs.Settings.{settings_of}
use Rattle.trips_answers.specs.Read.{HoldsInput}
use Rattle.trips_answers.specs.Report.{ending_of, shown_behind}
use Rattle.trips_grid_answers.specs.Counted.{IsCountedFrom}
use Rattle.trips_answers.specs.Worked.{IsWorked}
use Rattle.trips_answers.specs.Answer.{IsAnswer}

-- The table over the answers to this request: nothing was appended, the first part of a report where the
-- sink's count of faults rose (`cut`), or all of the report of this very answer.
abbrev pub IsAnswered : Option Request → (List ℕ → Option (List ℕ)) → Type 0
    → Option (List ℕ) → Option (List ℕ) → Type 0 → Status → Type 0
IsAnswered request held rose old new cut s = IsWritten (IsAnswer request held rose) old new cut s

-- The run from a state was reported: with this status, and with this text, behind which stands what is shown of the
-- end of the machine's run, of the counts of the grid's run and of its statistics.
abbrev pub IsReportedFrom : List Block → State → Settings → Status → List ℕ → Status → Option (List ℕ)
    → Option (List ℕ) → Type 0
IsReportedFrom blocks t settings wanted text s old new =
    let run = runs blocks t settings.most in
    (measured : Measured) × IsCountedFrom blocks t settings.conditions settings.most settings.show
    (ending_of run.1 run.0.next) measured × (s ≡ wanted)
    × Appended old new (shown_behind text run.0 measured (cost_of blocks run.0.trace) settings.show)

-- so was the run of an image on an input, from the start
abbrev pub IsReported : Image → List ℕ → Settings → Status → List ℕ → Status → Option (List ℕ)
    → Option (List ℕ) → Type 0
IsReported image input settings wanted text s old new =
    IsReportedFrom image.blocks (start image.bytes input) settings wanted text s old new

-- A request's work ended with this status: the file and the input are those that the names hold, as
-- far as they are told, and the status and some report are those of the work with them.
pub record EndsAs (held : List ℕ → Option (List ℕ)) (q : Request) (s : Status) : Type 0 where
  pub bytes : List ℕ
  pub input : List ℕ
  pub report : List ℕ
  pub holds : Holds (origin_held held q.origin) bytes
  pub holds_input : HoldsInput q.input held input
  pub worked : IsWorked q.work q.form (settings_of q) bytes input s report

-- the request is an evaluation that ended so
pub record EvalEnds (request : Option Request) (held : List ℕ → Option (List ℕ)) (s : Status)
    : Type 0 where
  pub q : Request
  pub asked : request ≡ Some q
  pub is_work : q.work ≡ Evaluate
  pub ends : EndsAs held q s
