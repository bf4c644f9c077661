use Rattle.std.proofs.Common.{◌≡◌, ◌-◌}
use Rattle.target_asm_spec.specs.inside.Whole.{bytes_in}
use Rattle.target_asm.specs.inside.Taking.{with_bytes}
use Rattle.target_asm.proofs.whole.bytes.Given as goal

-- the bytes so far, and those that are still read, are all
abbrev pub invariant-loop-at : goal.invariant-loop-at
invariant-loop-at l = with_bytes l.bytes.items (bytes_in l.count (l.count - l.at) l.at l.rest)
    ≡ bytes_in l.count l.count 0 l.text
