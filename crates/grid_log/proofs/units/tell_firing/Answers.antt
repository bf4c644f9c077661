use Rattle.std.proofs.Common.{◌≡◌, [], ◌∷◌, true, false, is_some, ◌∙◌, subst}
use Rattle.grid_events.specs.Notes.{Fires}
use Rattle.grid_events.specs.UnitNotes.{operation}
use Rattle.grid_parts.specs.inside.Asked.{block_of, inst_of}
use Rattle.grid_log.specs.Logs.{Logged}
use Rattle.grid_log.proofs.Turning.{fired_logged, unfired_logged}
use Rattle.grid_log.proofs.units.tell_firing.Goals as goal

pub returns-then-is_some : goal.returns-then-is_some
returns-then-is_some g c =
    let w = g.V.Windows.held c.args.window.now in
    let flies : is_some (block_of c.args.frame w.frames) ≡ true = cc in
    fired_logged c.args.tile c.args.frame c.args.slot c.args.log.now c.keep.new.self w.frames c.inst_of.result flies
    c.inst_of.ensures.value
    (subst (λ o. Logged c.args.log.now (Fires c.args.tile c.args.frame c.args.slot o ∷ []) c.keep.new.self)
    c.operation-op.ensures c.keep.ensures)

pub returns-else-is_some : goal.returns-else-is_some
returns-else-is_some g c =
    let w = g.V.Windows.held c.args.window.now in
    let away : is_some (block_of c.args.frame w.frames) ≡ false = cc in
    unfired_logged c.args.tile c.args.frame c.args.slot c.args.log.now c.args.log.now w.frames away
