use Rattle.std.proofs.Common.{take}
use Rattle.grid_machine.specs.inside.Shaped.{AreShapes}
use Rattle.grid_machine.proofs.shapes.all.Given as goal

abbrev pub invariant-loop-number : goal.invariant-loop-number
invariant-loop-number l = AreShapes (take l.number l.image.blocks) l.shapes.items
