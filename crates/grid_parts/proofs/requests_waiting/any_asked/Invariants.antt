use Rattle.grid_parts.proofs.MarkFacts.{FlagsBelow}
use Rattle.grid_parts.proofs.requests_waiting.any_asked.Given as goal

abbrev pub invariant-loop-i : goal.invariant-loop-i
invariant-loop-i g l = FlagsBelow l.state.asked.words l.order l.all l.i
