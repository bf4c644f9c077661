use Rattle.std.proofs.Common.{ap}
use Rattle.grid_parts.specs.Seen.{seen}
use Rattle.grid_parts.proofs.PartFacts.{with_fetching}
use Rattle.grid_parts.proofs.state.State.fetch_on.Goals as goal

pub returns-clause-change : goal.returns-clause-change
returns-clause-change g c = λ w. ap (λ f. with_fetching f (seen w c.args.self.now)) c.go_on.ensures
