use Rattle.std.proofs.Common.{ap, ap₂, ◌∙◌}
use Rattle.grid_cycle_spec.specs.Ends.{commit_oldest, seal_each}
use Rattle.grid_events.specs.EndNotes.{commit_notes}
use Rattle.grid_parts.specs.Seen.{seen}
use Rattle.grid_log.proofs.Turning.{same_logged}
use Rattle.grid_log.proofs.Ending.{ends_logged}
use Rattle.grid_log.proofs.ends.ends.Goals as goal

pub returns-clause-told : goal.returns-clause-told
returns-clause-told g c =
    let v = c.args.grid.now.window in
    let m = c.seal_each.new.grid in
    let mid = seen (g.V.Windows.held m.window) m.state in
    ends_logged (g.V.Windows.blocks v) (g.V.Windows.budget v) c.as_slice.result.now
    (seen (g.V.Windows.held v) c.args.grid.now.state) mid c.args.log.now c.seal_each.new.log c.commit_oldest.new.log
    (c.as_slice.ensures.value ∙ c.numbers-frames.ensures.value) c.seal_each.ensures.change c.seal_each.ensures.told
    (same_logged (λ i j. commit_notes i j mid) _ (g.V.Windows.blocks v) _ (g.V.Windows.budget v) c.seal_each.new.log
    c.commit_oldest.new.log c.seal_each.ensures.image c.seal_each.ensures.budget c.commit_oldest.ensures.told)

pub returns-clause-change : goal.returns-clause-change
returns-clause-change g c =
    let v = c.args.grid.now.window in
    let bs = g.V.Windows.blocks v in
    let b = g.V.Windows.budget v in
    let m = c.seal_each.new.grid in
    c.commit_oldest.ensures.change
    ∙ ap₂ (λ x y. commit_oldest x y (seen (g.V.Windows.held m.window) m.state))
    c.seal_each.ensures.image c.seal_each.ensures.budget
    ∙ ap (commit_oldest bs b) c.seal_each.ensures.change
    ∙ ap (λ ns. commit_oldest bs b (seal_each bs b ns (seen (g.V.Windows.held v) c.args.grid.now.state)))
    (c.as_slice.ensures.value ∙ c.numbers-frames.ensures.value)
