use Rattle.std.proofs.Common.{◌≡◌, ◌+◌, drop}
use Rattle.target_asm_spec.specs.inside.Reading.{digits_in}
use Rattle.target_asm.proofs.line_fields.digits.Given as goal

-- the digits so far, and those that follow
abbrev pub invariant-loop-i : goal.invariant-loop-i
invariant-loop-i l = l.i + digits_in (drop l.i l.text) ≡ digits_in l.text
