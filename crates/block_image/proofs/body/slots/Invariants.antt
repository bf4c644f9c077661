use Rattle.std.proofs.Common.{◌≡◌, ◌++◌, ◌+◌, ◌*◌, drop, length}
use Rattle.block_image.specs.Reading.{Slots}
use Rattle.block_image.specs.inside.Reading.{slots_at, with_front}
use Rattle.block_image.proofs.body.slots.Given as goal

abbrev pub invariant-loop-i : goal.invariant-loop-i
invariant-loop-i l = (front : Slots) × (l.out.items ≡ l.initial.out.items ++ front)
    × (length front ≡ l.i) × (with_front front
    (slots_at (l.at + 4 * l.i) (drop l.i l.words)) ≡ slots_at l.at l.words)
