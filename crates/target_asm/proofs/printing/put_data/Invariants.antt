use Rattle.std.proofs.Common.{◌≡◌, ◌++◌, take}
use Rattle.target_asm_spec.specs.Numbers.{numbered}
use Rattle.target_asm_spec.specs.Text.{byte_text}
use Rattle.target_asm.proofs.printing.put_data.Given as goal

-- the bytes so far are written
abbrev pub invariant-loop-at : goal.invariant-loop-at
invariant-loop-at l = l.out.items ≡ l.initial.out.items ++ numbered (byte_text l.count) 0
    (take l.at l.bytes)
