use Rattle.std.proofs.Common.{◌≡◌, ◌++◌, ◌∷◌, []}
use Rattle.operand_net.specs.Marks.{has_bit}
use Rattle.grid_record.specs.Moments.{slot_byte}
use Rattle.grid_record.specs.Pieces.{pieces}
use Rattle.grid_record.proofs.slots.put_slots.Given as goal

abbrev pub invariant-loop-slot : goal.invariant-loop-slot
invariant-loop-slot l = l.out.items
    ≡ l.fn.out.items ++ pieces (λ s. slot_byte l.held.spots l.held.fired (has_bit l.ready s) s ∷ []) l.slot
