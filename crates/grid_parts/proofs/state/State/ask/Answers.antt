use Rattle.std.proofs.Common.{ap}
use Rattle.grid_parts.specs.Seen.{seen}
use Rattle.grid_parts.proofs.PartFacts.{with_asked}
use Rattle.grid_parts.proofs.state.State.ask.Goals as goal

pub returns : goal.returns
returns g c = λ w. ap (λ k. with_asked k (seen w c.args.self.now)) c.put.ensures
