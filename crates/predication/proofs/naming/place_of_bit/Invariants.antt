use Rattle.std.proofs.Common.{◌≡◌, drop}
use Rattle.predication.specs.inside.Emits.{noted_from}
use Rattle.predication.proofs.naming.place_of_bit.Given as goal

abbrev pub invariant-loop-at : goal.invariant-loop-at
invariant-loop-at l = noted_from l.at l.register (drop l.at l.bits) ≡ noted_from 0 l.register l.bits
