use Rattle.grid_parts.proofs.MarkFacts.{FlagsBelow}
use Rattle.grid_tallies.proofs.banks.any_marked.Given as goal

abbrev pub invariant-loop-i : goal.invariant-loop-i
invariant-loop-i l = FlagsBelow l.marks.words l.order l.all l.i
