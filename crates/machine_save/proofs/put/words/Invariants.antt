use Rattle.std.proofs.Common.{◌≡◌, length, take}
use Rattle.machine_save.proofs.put.words.Given as goal

abbrev pub invariant-loop-r : goal.invariant-loop-r
invariant-loop-r l =
    (length l.words ≡ 128) × (length l.arch.state.registers ≡ 128)
    × (take l.r l.words ≡ take l.r l.arch.state.registers)
