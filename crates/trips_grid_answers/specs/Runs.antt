-- What a run on the grid is answered: the status and the report.
use Rattle.std.specs.Prelude.{ℕ, List}
use Rattle.trips_isa.specs.declared.block.Block.{Block}
use Rattle.trips_isa.specs.Machine.{State, runs}
use Rattle.grid_cycle_spec.specs.Costs.{cost_of}
use Rattle.grid_cycle.specs.declared.conditions.Conditions.{Conditions}
use Rattle.trips_report.specs.declared.measured.Measured.{Measured}
use Rattle.trips_report.specs.declared.show.Show.{Show}
use Rattle.trips_requests.specs.declared.status.Status.{Status}
use Rattle.trips_requests.specs.Texts.{IsFixed}
use Rattle.trips_report.specs.Endings.{status_of}
use Rattle.trips_grid_answers.specs.Report.{ending_of, shown_report}
use Rattle.trips_grid_answers.specs.Counted.{IsCountedFrom}

-- These tell the sequential machine's run from a state with an empty trace, within a budget of blocks, and what the
-- grid counted of it under these conditions.
abbrev pub IsRunFrom : List Block → State → Conditions → ℕ → Show → Status → List ℕ → Type 0
IsRunFrom blocks t conditions most show s report =
    let run = runs blocks t most in
    let ended = ending_of run.1 run.0.next in
    (measured : Measured) × IsCountedFrom blocks t conditions most show ended measured
    × IsFixed (status_of ended run.0) (shown_report ended run.0 measured (cost_of blocks run.0.trace) show) s report
