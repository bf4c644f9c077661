use Rattle.frame_state.proofs.BareFacts.{none_bare}
use Rattle.frame_state.proofs.marks.MarkTable.clear.Goals as goal

pub invariant_of-self : goal.invariant_of-self
invariant_of-self c = λ e. rw (c.clear.ensures.value, c.clear-2.ensures.value, c.clear-3.ensures.value) none_bare
