use Rattle.std.proofs.Common.{◌≡◌, ◌++◌, drop, map}
use Rattle.c_meaning_spec.specs.Call as call
use Rattle.flat_lower.specs.inside.Emitted.{starts_from}
use Rattle.flat_lower.proofs.functions.starts_of.Given as goal

abbrev pub invariant-loop-array : goal.invariant-loop-array
invariant-loop-array l = l.found ++ starts_from l.at
    (map call.array_bytes (drop l.array-index l.arrays))
    ≡ starts_from 0 (map call.array_bytes l.arrays)
