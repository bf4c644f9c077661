use Rattle.std.proofs.Common.{◌≡◌, ◌++◌, map, take}
use Rattle.c_meaning_spec.specs.Call.{unset_array}
use Rattle.c_meaning.proofs.call.add_arrays.Given as goal

abbrev pub invariant-loop-a : goal.invariant-loop-a
invariant-loop-a l = l.arrays ≡ l.initial.arrays ++ map unset_array (take l.a-index l.f.arrays)
