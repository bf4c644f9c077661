use Rattle.std.proofs.Common.{◌∙◌, ap, ap₂, subst}
use Rattle.grid_cycle_spec.specs.Units.{issues}
use Rattle.grid_events.specs.UnitNotes.{issues_notes}
use Rattle.grid_parts.specs.Seen.{seen}
use Rattle.grid_log.proofs.Turning.{same_logged}
use Rattle.grid_log.proofs.Turning.{turn_logged}
use Rattle.grid_log.proofs.units.unit_turn.Goals as goal

pub returns-clause-change : goal.returns-clause-change
returns-clause-change g c =
    let v = c.args.grid.now.window in
    let same = c.unit_on.ensures.same in
    let u = c.unit_on.new.self in
    c.issues.ensures.change
    ∙ ap₂ (λ i j. issues i j c.args.tile (seen (g.V.Windows.held u.window) u.state)) (ap g.V.Windows.blocks same)
    (ap g.V.Windows.budget same)
    ∙ ap (issues (g.V.Windows.blocks v) (g.V.Windows.budget v) c.args.tile) c.unit_on.ensures.change

pub returns-clause-told : goal.returns-clause-told
returns-clause-told g c =
    let v = c.args.grid.now.window in
    let same = c.unit_on.ensures.same in
    let u = c.unit_on.new.self in
    let mid = seen (g.V.Windows.held u.window) u.state in
    turn_logged (g.V.Windows.blocks v) (g.V.Windows.budget v) c.args.tile
    (seen (g.V.Windows.held v) c.args.grid.now.state) c.args.log.now c.issues.new.log mid c.unit_on.ensures.change
    (same_logged (λ i j. issues_notes i j c.args.tile mid) _ (g.V.Windows.blocks v) _ (g.V.Windows.budget v)
    c.args.log.now c.issues.new.log (ap g.V.Windows.blocks same) (ap g.V.Windows.budget same)
    c.issues.ensures.told)
