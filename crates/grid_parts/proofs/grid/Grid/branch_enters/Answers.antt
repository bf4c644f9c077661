use Rattle.std.proofs.Common.{◌*◌, sym, ap₂, ◌∙◌}
use Rattle.grid_cycle_spec.specs.Sending.{enters}
use Rattle.grid_parts.specs.Seen.{seen}
use Rattle.grid_parts.proofs.FrameFacts.{frame_number}
use Rattle.grid_parts.proofs.grid.Grid.branch_enters.Goals as goal

pub returns-clause-change : goal.returns-clause-change
returns-clause-change g c = λ f i e.
    let w = g.V.Windows.held c.args.self.now.window in
    let here = seen w c.args.self.now.state in
    c.enter_request.ensures
    ∙ ap₂ (λ m a. enters m (2 * c.args.slot) a 0 here) (sym (frame_number c.args.frame w.frames f e))
    c.tile_node-from.ensures.value
