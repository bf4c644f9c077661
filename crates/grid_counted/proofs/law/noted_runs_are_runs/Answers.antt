use Rattle.grid_counted.proofs.NotedRuns.{is_run}
use Rattle.grid_counted.proofs.law.noted_runs_are_runs.Goals as goal

pub returns : goal.returns
returns g c = λ blocks budget n x y notes noted.
    is_run g.W.Weather.next g.W.Weather.follows blocks budget n x y notes noted
