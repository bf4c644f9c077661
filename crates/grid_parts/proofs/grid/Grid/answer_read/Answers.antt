use Rattle.std.proofs.Common.{◌≡◌, ◌+◌, ◌*◌, ap, ◌∙◌, arith}
use Rattle.commit_flush_spec.specs.Window.{Window, Read, happens}
use Rattle.grid_cycle_spec.specs.Choosing.{with_frame}
use Rattle.grid_cycle_spec.specs.Sending.{enter_both}
use Rattle.grid_cycle_spec.specs.Stations.{bank_node}
use Rattle.grid_parts.specs.Seen.{seen}
use Rattle.grid_parts.proofs.grid.Grid.answer_read.Goals as goal

pub returns-clause-change : goal.returns-clause-change
returns-clause-change g c =
    let s = c.args.self.now.state in
    let place = 256 + 2 * c.args.read in
    let after : Window = happens (g.V.Windows.blocks c.args.self.now.window)
    (g.V.Windows.budget c.args.self.now.window)
    (Read c.args.frame c.args.read) (g.V.Windows.held c.args.self.now.window) in
    let node : 1 + c.args.bank ≡ bank_node c.args.bank = omega arith in
    c.enter_both.ensures
    ∙ ap (λ w. with_frame c.args.frame (λ f h. enter_both (1 + c.args.bank) f place h) w.frames (seen w s))
    c.read.ensures.after
    ∙ ap (λ n. with_frame c.args.frame (λ f h. enter_both n f place h) after.frames (seen after s)) node
