use Rattle.std.proofs.Common.{◌≡◌, ◌+◌, ◌*◌, ◌≤◌, drop, length}
use Rattle.c_meaning_spec.specs.Call.{all_bytes}
use Rattle.c_meaning.proofs.call.room_with.Given as goal

abbrev pub invariant-loop-a : goal.invariant-loop-a
invariant-loop-a l =
    (l.total ≤ 1048576) × (l.total + all_bytes (drop l.a-index l.f.arrays)
    ≡ l.fn.room + 8 * (18 + length l.f.scalars) + all_bytes l.f.arrays)
