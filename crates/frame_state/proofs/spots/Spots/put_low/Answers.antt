use Rattle.frame_state.proofs.PredicateFacts.{tells_low}
use Rattle.frame_state.proofs.spots.Spots.put_low.Goals as goal

pub invariant_of-self : goal.invariant_of-self
invariant_of-self c = rw c.put.ensures.value
    (tells_low c.self.inside.row c.self.inside.odd c.self.inside.even c.args.q c.args.token c.self.invariant
    c.requires)
