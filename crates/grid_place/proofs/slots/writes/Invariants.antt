use Rattle.std.proofs.Common.{◌≡◌, take}
use Rattle.grid_place.proofs.slots.writes.Given as goal

abbrev pub invariant-loop-register : goal.invariant-loop-register
invariant-loop-register l = l.out.items ≡ take l.register-index l.writes
