use Rattle.std.proofs.Common.{◌≡◌, drop}
use Rattle.predication.specs.inside.Environments.{member}
use Rattle.predication.proofs.joining.is_member.Given as goal

abbrev pub invariant-loop-other : goal.invariant-loop-other
invariant-loop-other l =
    member l.register (drop l.other-index l.registers) ≡ member l.register l.registers
