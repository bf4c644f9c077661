-- The reports of runs that the program writes, of what the machine does and of what was counted: those of
-- `trips_grid_answers`, and what they tell of an image.
use Rattle.std.specs.Prelude.{ℕ, List}
use Rattle.trips_isa.specs.declared.block.Image.{Image}
use Rattle.trips_isa.specs.Machine.{start}
use Rattle.trips_report.specs.declared.show.Show.{Show}
use Rattle.trips_requests.specs.declared.status.Status.{Status}
use Rattle.trips_grid_answers.specs.Report.{TellsRunFrom}
pub use Rattle.trips_report.specs.Endings.{status_of}
pub use Rattle.trips_grid_answers.specs.Report.{ending_of, shown_report, shown_behind, run_report}
pub use Rattle.trips_grid_answers.specs.Report.{full_report, trap_cost, CountsRun}

-- These tell the machine's run of an image on an input, within so many blocks: the status how it ended, and the
-- report what it put out and how it ended, with what is shown behind that of its end and of its counts.
abbrev pub TellsRun : Image → List ℕ → ℕ → Show → Status → List ℕ → Type 0
TellsRun image input most show s report = TellsRunFrom image.blocks (start image.bytes input) most show s report
