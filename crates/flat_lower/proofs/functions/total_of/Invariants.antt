use Rattle.std.proofs.Common.{◌≡◌, ◌+◌, drop}
use Rattle.c_meaning_spec.specs.Call as call
use Rattle.flat_lower.proofs.functions.total_of.Given as goal

abbrev pub invariant-loop-array : goal.invariant-loop-array
invariant-loop-array l = l.total + call.all_bytes (drop l.array-index l.arrays)
    ≡ call.all_bytes l.arrays
