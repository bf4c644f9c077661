use Rattle.std.proofs.Common.{◌≡◌, ◌++◌, take}
use Rattle.target_asm_spec.specs.Numbers.{numbered}
use Rattle.trips_report.specs.Runs.{register_line}
use Rattle.trips_report.proofs.lines.put_registers.Given as goal

-- the lines of those so far are written
abbrev pub invariant-loop-r : goal.invariant-loop-r
invariant-loop-r l =
    l.out.items ≡ l.initial.out.items ++ numbered register_line 0 (take l.r l.arch.state.registers)
