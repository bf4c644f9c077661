use Rattle.std.proofs.Common.{◌≡◌, length}
use Rattle.c_library.specs.Definitions.{formats}
use Rattle.c_library.proofs.definition.add_formats.Given as goal

abbrev pub invariant-loop-rest : goal.invariant-loop-rest
invariant-loop-rest l = formats l.fn.walk l.fn.tokens l.fn.all ≡ formats l.walk l.rest l.all

abbrev pub decreases-loop-rest : goal.decreases-loop-rest
decreases-loop-rest l = length l.rest
