use Rattle.std.proofs.Common.{◌≡◌, map, take}
use Rattle.grid_place.specs.Moves.{goes}
use Rattle.grid_place.specs.inside.Moves.{renamed_read}
use Rattle.grid_place.proofs.slots.reads.Given as goal

abbrev pub invariant-loop-read : goal.invariant-loop-read
invariant-loop-read l = l.out.items ≡ map (renamed_read (goes l.to)) (take l.read-index l.reads)
