use Rattle.std.proofs.Common.{ap}
use Rattle.grid_parts.specs.Seen.{seen}
use Rattle.grid_parts.specs.inside.Changes.{with_parcels}
use Rattle.grid_parts.proofs.ArrivalFacts.{arrived_within}
use Rattle.grid_parts.proofs.state.State.arrived.Goals as goal

pub returns-clause-within : goal.returns-clause-within
returns-clause-within g c = arrived_within _ c.args.order.now c.arrived.result c.arrived.ensures.value

pub returns-clause-change : goal.returns-clause-change
returns-clause-change g c = λ w. ap (λ m. with_parcels m (seen w c.args.self.now)) c.arrived.ensures.after
