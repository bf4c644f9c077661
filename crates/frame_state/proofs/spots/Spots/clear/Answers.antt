use Rattle.frame_state.proofs.PredicateFacts.{tells_none}
use Rattle.frame_state.proofs.spots.Spots.clear.Goals as goal

pub invariant_of-self : goal.invariant_of-self
invariant_of-self c = rw (c.clear.ensures.value, c.clear-2.ensures.value, c.clear-3.ensures.value) tells_none
