use Rattle.std.proofs.Common.{◌≡◌, ◌++◌, map, take}
use Rattle.c_meaning_spec.specs.Call.{array_row}
use Rattle.c_meaning.proofs.call.add_rows.Given as goal

abbrev pub invariant-loop-a : goal.invariant-loop-a
invariant-loop-a l = l.rows.items ≡ l.initial.rows.items ++ map array_row (take l.a-index l.f.arrays)
