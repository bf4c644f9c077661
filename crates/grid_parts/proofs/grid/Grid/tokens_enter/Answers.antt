use Rattle.std.proofs.Common.{◌*◌, ap, ◌∙◌}
use Rattle.grid_cycle_spec.specs.Sending.{enter_both}
use Rattle.grid_parts.specs.Seen.{seen}
use Rattle.grid_parts.proofs.FrameFacts.{by_frame, with_frame_is}
use Rattle.grid_parts.proofs.grid.Grid.tokens_enter.Goals as goal

pub returns-clause-change : goal.returns-clause-change
returns-clause-change g c = λ f e.
    let w = g.V.Windows.held c.args.self.now.window in
    let here = seen w c.args.self.now.state in
    let from = c.tile_node-from.result in
    c.enter_both.ensures
    ∙ with_frame_is c.args.frame (λ h k. enter_both from h (2 * c.args.slot) k) w.frames here
    ∙ ap (by_frame (λ h k. enter_both from h (2 * c.args.slot) k) here) e
    ∙ ap (λ n. enter_both n f (2 * c.args.slot) here) c.tile_node-from.ensures.value
