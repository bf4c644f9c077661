use Rattle.std.proofs.Common.{◌<◌}
use Rattle.grid_place.proofs.tiles.Tiles.best.Given as goal

abbrev pub invariant-loop-t : goal.invariant-loop-t
invariant-loop-t l = l.best < 16
