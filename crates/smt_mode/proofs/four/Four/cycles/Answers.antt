use Rattle.std.proofs.Common.{ap}
use Rattle.smt_mode.proofs.four.Four.cycles.Goals as goal

pub returns : goal.returns
returns g c = ap (λ x. x.cycles) c.self.view_is
