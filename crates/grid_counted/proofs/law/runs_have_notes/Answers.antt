use Rattle.grid_counted.proofs.NotedRuns.{run_has_notes}
use Rattle.grid_counted.proofs.law.runs_have_notes.Goals as goal

pub returns : goal.returns
returns g c = λ blocks budget n x y run.
    run_has_notes g.W.Weather.next g.W.Weather.follows blocks budget n x y run
