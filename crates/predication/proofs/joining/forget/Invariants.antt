use Rattle.std.proofs.Common.{◌≡◌, drop}
use Rattle.predication.specs.inside.Environments.{left_bits}
use Rattle.predication.specs.inside.Emits.{bits_of}
use Rattle.predication.proofs.joining.forget.Given as goal

abbrev pub invariant-loop-register : goal.invariant-loop-register
invariant-loop-register l =
    left_bits (bits_of l.bits) (drop l.register-index l.registers) ≡ left_bits (bits_of l.fn.bits) l.registers
