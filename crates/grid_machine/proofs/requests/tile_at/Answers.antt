use Rattle.std.proofs.Common.{ap, sym, ◌∙◌}
use Rattle.grid_cycle_spec.specs.DataTiles.{tile_by}
use Rattle.grid_machine.proofs.ToldFacts.{no_frame, no_slot, tile_told}
use Rattle.grid_machine.proofs.requests.tile_at.Goals as goal

pub returns-in-None-clause-value : goal.returns-in-None-clause-value
returns-in-None-clause-value c = λ f i e w.
    absurd (no_frame c.args.frame c.args.window.now.window.frames f c.in-None.ensures.value e)

pub returns-in-None-slot_of-clause-value : goal.returns-in-None-slot_of-clause-value
returns-in-None-slot_of-clause-value c = λ f i e w.
    absurd (no_slot c.args.frame c.args.window.now.window.frames c.in-Some.held.now c.in-Some.block.now
    c.in-Some.ensures.value f e c.args.slot i (sym c.in-None-slot_of.ensures) w)

pub returns-in-Some-slot_of-clause-value : goal.returns-in-Some-slot_of-clause-value
returns-in-Some-slot_of-clause-value c = λ f i e w.
    tile_told c.args.frame c.args.window.now.window.frames c.in-Some.held.now c.in-Some.block.now
    c.in-Some.ensures.value f e c.args.slot _ c.in-Some-slot_of.inst i (sym c.in-Some-slot_of.ensures)
    (c.tile_by.ensures.value ∙ ap (tile_by c.in-Some-slot_of.inst) c.left_of.ensures) w
