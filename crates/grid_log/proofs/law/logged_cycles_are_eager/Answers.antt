use Rattle.grid_log.proofs.CycleFacts.{logged_eager}
use Rattle.grid_log.proofs.StandardFacts.{works}
use Rattle.grid_log.proofs.law.logged_cycles_are_eager.Goals as goal

pub returns : goal.returns
returns g c = λ blocks budget x y a b logged.
    logged_eager g.W.Weather.next g.W.Weather.follows blocks budget x y a b logged
