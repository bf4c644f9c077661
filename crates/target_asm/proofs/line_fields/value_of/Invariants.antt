use Rattle.std.proofs.Common.{◌≡◌, ◌≤◌, drop}
use Rattle.target_asm_spec.specs.inside.Reading.{value_from}
use Rattle.target_asm.proofs.line_fields.value_of.Given as goal

-- the digits that follow go on with the value, to that of all
abbrev pub invariant-loop-b : goal.invariant-loop-b
invariant-loop-b l = (l.value ≤ 2000000000)
    × (value_from l.value (drop l.b-index l.digits) ≡ value_from 0 l.digits)
