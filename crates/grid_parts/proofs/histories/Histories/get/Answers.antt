use Rattle.std.proofs.Common.{get_or, ap}
use Rattle.grid_parts.proofs.histories.Histories.get.Goals as goal

pub returns-clause-value : goal.returns-clause-value
returns-clause-value c = ap (λ ws. get_or ws c.args.frame 0) c.self.view_is

pub returns-clause-within : goal.returns-clause-within
returns-clause-within c = c.self.invariant.below c.args.frame
