use Rattle.std.proofs.Common.{drop, take}
use Rattle.commit_flush.specs.inside.Emptied.{IsEmptied}
use Rattle.commit_flush.proofs.parts.empty_from.Given as goal

abbrev pub invariant-loop-a : goal.invariant-loop-a
invariant-loop-a l = IsEmptied (drop l.from (take l.a l.order)) l.fn.frames.items l.frames.items
