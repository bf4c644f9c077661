use Rattle.std.proofs.Common.{◌≡◌, drop}
use Rattle.block_image.specs.Reading.{all_empty}
use Rattle.block_image.proofs.body.are_empty.Given as goal

abbrev pub invariant-loop-slot : goal.invariant-loop-slot
invariant-loop-slot l = all_empty (drop l.slot-index l.slots) ≡ all_empty l.slots
