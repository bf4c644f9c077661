use Rattle.std.proofs.Common.{◌≡◌, drop}
use Rattle.predication.specs.inside.Emits.{bits_of}
use Rattle.predication.proofs.naming.bit_of.Given as goal

abbrev pub invariant-loop-noted : goal.invariant-loop-noted
invariant-loop-noted l = bits_of (drop l.noted-index l.bits) l.register ≡ bits_of l.bits l.register
