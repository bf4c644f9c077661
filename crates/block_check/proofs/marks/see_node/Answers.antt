use Rattle.block_check.proofs.Seeing.{seen_two, seen_low}
use Rattle.block_check.proofs.marks.see_node.Goals as goal

pub see_at-requires-2-clause-low : goal.see_at-requires-2-clause-low
see_at-requires-2-clause-low c q lt = seen_low _ _ _ (c.see_at.ensures q lt)

pub returns : goal.returns
returns c q lt = seen_two _ _ _ _ _ (c.see_at.ensures q lt) (c.see_at-2.ensures q lt)
