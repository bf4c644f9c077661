use Rattle.std.proofs.Common.{ap}
use Rattle.grid_parts.specs.Seen.{seen}
use Rattle.grid_parts.proofs.PartFacts.{with_works}
use Rattle.grid_parts.proofs.state.State.rest.Goals as goal

pub returns : goal.returns
returns g c = λ w. ap (λ k. with_works k (seen w c.args.self.now)) c.take.ensures
