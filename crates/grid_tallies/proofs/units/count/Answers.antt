use Rattle.std.proofs.Common.{◌≡◌, true, false, is_some, sym, ap, ◌∙◌, subst}
use Rattle.grid_events.specs.UnitNotes.{operation}
use Rattle.grid_parts.specs.inside.Asked.{block_of, inst_of}
use Rattle.grid_tallies.specs.Statistics.{kind_of}
use Rattle.grid_tallies.specs.inside.Adding.{Adds}
use Rattle.grid_tallies.proofs.Answering.{fired_heard, unfired_heard}
use Rattle.grid_tallies.proofs.units.count.Goals as goal

pub returns-then-is_some : goal.returns-then-is_some
returns-then-is_some g c = λ tile.
    let w = g.V.Windows.held c.args.window.now in
    let flies : is_some (block_of c.args.frame w.frames) ≡ true = cc in
    fired_heard tile c.args.frame c.args.slot c.args.told.now c.add.new.self w.frames c.inst_of.result flies
    c.inst_of.ensures.value
    (subst (λ k. Adds k 1 c.args.told.now c.add.new.self) (c.kind_of.ensures ∙ ap kind_of
    c.operation-operation.ensures)
    c.add.ensures)

pub returns-else-is_some : goal.returns-else-is_some
returns-else-is_some g c = λ tile.
    let w = g.V.Windows.held c.args.window.now in
    let away : is_some (block_of c.args.frame w.frames) ≡ false = cc in
    unfired_heard tile c.args.frame c.args.slot c.args.told.now c.args.told.now w.frames away
