use Rattle.std.proofs.Common.{◌≡◌, length}
use Rattle.c_library.specs.Formats.{with_items}
use Rattle.c_library.proofs.format.Writer.add_all.Given as goal

abbrev pub invariant-loop-rest : goal.invariant-loop-rest
invariant-loop-rest l = with_items l.fn.items l.fn.self ≡ with_items l.rest l.self

abbrev pub decreases-loop-rest : goal.decreases-loop-rest
decreases-loop-rest l = length l.rest
