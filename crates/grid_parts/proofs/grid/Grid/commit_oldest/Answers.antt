use Rattle.std.proofs.Common.{cond, ap, ◌∙◌}
use Rattle.grid_cycle_spec.specs.Ends.{commit_in}
use Rattle.grid_parts.specs.Seen.{seen}
use Rattle.grid_parts.proofs.grid.Grid.commit_oldest.Goals as goal

pub returns-then-can_commit-clause-change : goal.returns-then-can_commit-clause-change
returns-then-can_commit-clause-change g c =
    let v = c.args.self.now.window in
    let w = g.V.Windows.held v in
    let here = seen w c.args.self.now.state in
    c.commit_first.ensures.change
    ∙ ap (λ b. cond b (commit_in (g.V.Windows.blocks v) (g.V.Windows.budget v) w.frames here) here)
    c.if-can_commit.ensures

pub returns-else-can_commit-clause-change : goal.returns-else-can_commit-clause-change
returns-else-can_commit-clause-change g c =
    let v = c.args.self.now.window in
    let w = g.V.Windows.held v in
    let here = seen w c.args.self.now.state in
    ap (λ b. cond b (commit_in (g.V.Windows.blocks v) (g.V.Windows.budget v) w.frames here) here)
    c.if-can_commit.ensures
