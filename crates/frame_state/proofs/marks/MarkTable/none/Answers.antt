use Rattle.frame_state.proofs.BareFacts.{none_bare}
use Rattle.frame_state.proofs.marks.MarkTable.none.Goals as goal

pub invariant_of-result : goal.invariant_of-result
invariant_of-result c = λ e. rw (c.none.ensures, c.none-2.ensures, c.none-3.ensures) none_bare
