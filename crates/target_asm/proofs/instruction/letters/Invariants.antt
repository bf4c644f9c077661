use Rattle.std.proofs.Common.{◌≡◌, ◌+◌, drop}
use Rattle.target_asm_spec.specs.inside.Instructions.{letters_in}
use Rattle.target_asm.proofs.instruction.letters.Given as goal

-- the letters so far, and those that follow
abbrev pub invariant-loop-i : goal.invariant-loop-i
invariant-loop-i l = l.i + letters_in (drop l.i l.text) ≡ letters_in l.text
