use Rattle.std.proofs.Common.{◌≡◌, cond, true, false, Some, None, option_copied, slice_index_or, sym, ap, ◌∙◌}
use Rattle.block_cases.specs.Orders.{slot_of}
use Rattle.frame_state.specs.inside.Held.{Held}
use Rattle.frame_state.proofs.TryFacts.{answers_fired}
use Rattle.frame_state.proofs.trying.fire_running.Goals as goal

pub returns-then-fire_if-clause-answer : goal.returns-then-fire_if-clause-answer
returns-then-fire_if-clause-answer c =
    let b = c.args.block.now in
    let h = c.args.frame.now in
    let found : Some c.in-Some.inst.now ≡ cond (slice_index_or h.fired c.args.slot false) None
    (slot_of b c.args.slot) =
    ap option_copied (sym c.in-Some.is) ∙ c.waiting_at.ensures.value
    ∙ ap (λ (x : Held). cond (slice_index_or x.fired c.args.slot false) None (slot_of b c.args.slot))
    c.held.ensures in
    λ o. answers_fired b h c.args.slot c.in-Some.inst.now true found
    (sym c.if-fire_if.true ∙ c.fire_if.ensures.fires) o

pub returns-else-fire_if-clause-answer : goal.returns-else-fire_if-clause-answer
returns-else-fire_if-clause-answer c =
    let b = c.args.block.now in
    let h = c.args.frame.now in
    let found : Some c.in-Some.inst.now ≡ cond (slice_index_or h.fired c.args.slot false) None
    (slot_of b c.args.slot) =
    ap option_copied (sym c.in-Some.is) ∙ c.waiting_at.ensures.value
    ∙ ap (λ (x : Held). cond (slice_index_or x.fired c.args.slot false) None (slot_of b c.args.slot))
    c.held.ensures in
    λ o. answers_fired b h c.args.slot c.in-Some.inst.now false found
    (sym c.if-fire_if.false ∙ c.fire_if.ensures.fires) o
