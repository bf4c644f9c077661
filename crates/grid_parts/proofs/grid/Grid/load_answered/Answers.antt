use Rattle.std.proofs.Common.{◌≡◌, ◌+◌, ◌*◌, ap, ◌∙◌, arith}
use Rattle.commit_flush_spec.specs.Window.{Window, Load, happens}
use Rattle.grid_cycle_spec.specs.Choosing.{with_frame}
use Rattle.grid_cycle_spec.specs.DataTiles.{unasked}
use Rattle.grid_cycle_spec.specs.Sending.{enter_both}
use Rattle.grid_cycle_spec.specs.Stations.{data_node}
use Rattle.grid_parts.specs.Seen.{seen}
use Rattle.grid_parts.proofs.FlushFacts.{frame_counts}
use Rattle.grid_parts.proofs.grid.Grid.load_answered.Goals as goal

pub returns-clause-change : goal.returns-clause-change
returns-clause-change g c =
    let v = c.args.self.now.window in
    let s = c.args.self.now.state in
    let place = 2 * c.args.slot in
    let m = c.args.frame in
    let after : Window = happens (g.V.Windows.blocks v) (g.V.Windows.budget v) (Load m c.args.number)
    (g.V.Windows.held v) in
    let node : 5 * (1 + c.args.tile) ≡ data_node c.args.tile = omega arith in
    c.enter_both.ensures
    ∙ ap (with_frame m (λ f h. enter_both (5 * (1 + c.args.tile)) f place h)
    (g.V.Windows.held c.load.new.self).frames) (c.unask.ensures (g.V.Windows.held c.load.new.self))
    ∙ ap (λ w. with_frame m (λ f h. enter_both (5 * (1 + c.args.tile)) f place h) w.frames
    (unasked m c.args.number (seen w s))) c.load.ensures.after
    ∙ ap (λ n. with_frame m (λ f h. enter_both n f place h) after.frames (unasked m c.args.number (seen after s)))
    node

pub returns-clause-few : goal.returns-clause-few
returns-clause-few g c =
    let after = g.V.Windows.held c.load.new.self in
    ap (λ x. x.counts) c.enter_both.ensures
    ∙ frame_counts c.args.frame (5 * (1 + c.args.tile)) (2 * c.args.slot) after.frames (seen after c.unask.new.self)
    ∙ ap (λ x. x.counts) (c.unask.ensures after)
