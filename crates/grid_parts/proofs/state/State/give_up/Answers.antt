use Rattle.std.proofs.Common.{ap}
use Rattle.grid_parts.specs.Seen.{seen}
use Rattle.grid_parts.proofs.PartFacts.{with_fetching}
use Rattle.grid_parts.proofs.state.State.give_up.Goals as goal

pub returns : goal.returns
returns g c = λ w. ap (λ f. with_fetching f (seen w c.args.self.now)) c.clear.ensures
