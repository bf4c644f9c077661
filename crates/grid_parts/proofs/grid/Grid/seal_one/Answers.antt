use Rattle.std.proofs.Common.{◌==◌, cond, ap, ◌∙◌}
use Rattle.commit_flush_spec.specs.Window.{Seal, happens}
use Rattle.grid_cycle_spec.specs.Grid.{forget}
use Rattle.grid_parts.specs.Seen.{seen}
use Rattle.grid_parts.proofs.grid.Grid.seal_one.Goals as goal

pub returns-then-can_seal-clause-change : goal.returns-then-can_seal-clause-change
returns-then-can_seal-clause-change g c =
    let v = c.args.self.now.window in
    let s = c.args.self.now.state in
    let here = seen (g.V.Windows.held v) s in
    let n = c.args.frame in
    let after = happens (g.V.Windows.blocks v) (g.V.Windows.budget v) (Seal n) (g.V.Windows.held v) in
    c.forget.ensures.change (g.V.Windows.held c.seal.new.self)
    ∙ ap (λ w. forget (λ m. m == n) (seen w s)) c.seal.ensures.after
    ∙ ap (λ b. cond b (forget (λ m. m == n) (seen after s)) here) c.if-can_seal.ensures

pub returns-else-can_seal-clause-change : goal.returns-else-can_seal-clause-change
returns-else-can_seal-clause-change g c =
    let v = c.args.self.now.window in
    let s = c.args.self.now.state in
    let here = seen (g.V.Windows.held v) s in
    let n = c.args.frame in
    let after = happens (g.V.Windows.blocks v) (g.V.Windows.budget v) (Seal n) (g.V.Windows.held v) in
    ap (λ b. cond b (forget (λ m. m == n) (seen after s)) here) c.if-can_seal.ensures
