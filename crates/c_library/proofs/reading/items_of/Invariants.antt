use Rattle.std.proofs.Common.{◌≡◌, length}
use Rattle.c_library.specs.Reading.{read, items_of}
use Rattle.c_library.proofs.reading.items_of.Given as goal

abbrev pub invariant-loop-rest : goal.invariant-loop-rest
invariant-loop-rest l = items_of l.fn.format ≡ read l.part l.items l.rest

abbrev pub decreases-loop-rest : goal.decreases-loop-rest
decreases-loop-rest l = length l.rest
