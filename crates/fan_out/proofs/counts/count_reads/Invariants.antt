use Rattle.std.proofs.Common.{◌≡◌, ◌+◌, drop}
use Rattle.fan_out.specs.inside.Unplaced as slotless
use Rattle.fan_out.proofs.counts.count_reads.Given as goal

abbrev pub invariant-loop-register : goal.invariant-loop-register
invariant-loop-register l = l.count + slotless.reads_counted l.wires (drop l.register-index l.reads)
    ≡ slotless.reads_counted l.wires l.reads
