use Rattle.frame_state.proofs.PredicateFacts.{tells_none}
use Rattle.frame_state.proofs.spots.Spots.none.Goals as goal

pub invariant_of-result : goal.invariant_of-result
invariant_of-result c = rw (c.none.ensures, c.none-2.ensures, c.none-3.ensures) tells_none
