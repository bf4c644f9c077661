use Rattle.std.proofs.Common.{◌≡◌, ℕ, List, ◌++◌, ◌∷◌, [], ap, ◌∙◌}
use Rattle.operand_net.specs.Marks.{has_bit}
use Rattle.grid_record.specs.Moments.{slot_byte}
use Rattle.grid_record.proofs.PieceFacts.{next_piece, none_yet}
use Rattle.grid_record.proofs.slots.put_slots.Goals as goal

pub loop-slot-init : goal.loop-slot-init
loop-slot-init c = none_yet
    (λ s. slot_byte c.args.held.now.spots c.args.held.now.fired (has_bit c.args.ready s) s ∷ []) c.args.out.now.items

pub loop-slot-preserved : goal.loop-slot-preserved
loop-slot-preserved c = next_piece c.args.out.now.items piece c.loop-slot.slot c.loop-slot.invariant
    (c.in_ok-put_byte.ensures.ok ∙ ap (λ (b : ℕ). c.loop-slot.out.items ++ b ∷ []) (c.slot_byte.ensures
    ∙ ap (λ r. slot_byte c.args.held.now.spots c.args.held.now.fired r c.loop-slot.slot) c.has_bit-may_fire.ensures))
  where
    piece : ℕ → List ℕ
    piece s = slot_byte c.args.held.now.spots c.args.held.now.fired (has_bit c.args.ready s) s ∷ []
