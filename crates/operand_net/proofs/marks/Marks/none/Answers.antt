use Rattle.operand_net.proofs.MarkBits.{no_marks, none_full}
use Rattle.operand_net.proofs.marks.Marks.none.Goals as goal

pub invariant_of-result : goal.invariant_of-result
invariant_of-result c = none_full 40

pub returns : goal.returns
returns c = no_marks 40
