use Rattle.std.proofs.Common.{get_or, arith, ◌+◌}
use Rattle.c_compile_layout.specs.inside.Linking.{resolved_slot, by_both}
use Rattle.c_compile_layout.proofs.LabelLoop.{slot_turned}
use Rattle.c_compile_layout.proofs.linking.resolve_slots.Goals as goal

pub loop-i-preserved : goal.loop-i-preserved
loop-i-preserved c =
    slot_turned (resolved_slot (by_both (λ x. get_or c.args.starts.now x c.args.end) c.args.k)) c.args.slots.now
    c.loop-i.slots c.loop-i.i (c.loop-i.i + 1) _ c.resolve_slot.new.slot (omega arith) (omega arith)
    c.loop-i.invariant c.resolve_slot.ensures.value
