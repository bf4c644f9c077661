use Rattle.std.proofs.Common.{◌*◌, sym, ap, ap₂, ◌∙◌}
use Rattle.grid_cycle_spec.specs.Sending.{enters}
use Rattle.grid_cycle_spec.specs.Stations.{data_node}
use Rattle.grid_parts.specs.Seen.{seen}
use Rattle.grid_parts.proofs.FrameFacts.{frame_number}
use Rattle.grid_parts.proofs.grid.Grid.request_enters.Goals as goal

pub returns-clause-change : goal.returns-clause-change
returns-clause-change g c = λ f i e is.
    let w = g.V.Windows.held c.args.self.now.window in
    let here = seen w c.args.self.now.state in
    c.enter_request.ensures
    ∙ ap (λ m. enters m (2 * c.args.slot) c.tile_node-from.result c.data_node-to.result here)
    (sym (frame_number c.args.frame w.frames f e))
    ∙ ap₂ (λ a b. enters f.number (2 * c.args.slot) a b here) c.tile_node-from.ensures.value
    (c.data_node-to.ensures.value ∙ ap data_node (c.tile_at.ensures.value f i e is))
