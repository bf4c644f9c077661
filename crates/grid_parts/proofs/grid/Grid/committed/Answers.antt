use Rattle.std.proofs.Common.{◌∷◌, get_or, ap, ◌∙◌}
use Rattle.grid_cycle_spec.specs.Ends.{committed_as}
use Rattle.grid_parts.specs.Seen.{seen}
use Rattle.grid_parts.proofs.grid.Grid.committed.Goals as goal

pub returns-in-Trap-clause-change : goal.returns-in-Trap-clause-change
returns-in-Trap-clause-change g c = λ f fs e eb ex.
    let w = g.V.Windows.held c.args.self.now.window in
    c.flush.ensures w (f ∷ fs) e ∙ ap (λ o. committed_as o f fs (seen w c.args.self.now.state)) c.in-Trap.ensures

pub returns-in-Went-clause-change : goal.returns-in-Went-clause-change
returns-in-Went-clause-change g c = λ f fs e eb ex.
    let w = g.V.Windows.held c.args.self.now.window in
    c.commits.ensures.change f (ap (λ ns. get_or ns 0 0) e) eb ex
    ∙ ap (λ o. committed_as o f fs (seen w c.args.self.now.state)) c.in-Went.ensures

pub returns-in-Ended-clause-change : goal.returns-in-Ended-clause-change
returns-in-Ended-clause-change g c = λ f fs e eb ex.
    let w = g.V.Windows.held c.args.self.now.window in
    c.commits-in-Ended.ensures.change f (ap (λ ns. get_or ns 0 0) e) eb ex
    ∙ ap (λ o. committed_as o f fs (seen w c.args.self.now.state)) c.in-Ended.ensures

pub returns-in-StackFull-clause-change : goal.returns-in-StackFull-clause-change
returns-in-StackFull-clause-change g c = λ f fs e eb ex.
    let w = g.V.Windows.held c.args.self.now.window in
    c.commits-in-StackFull.ensures.change f (ap (λ ns. get_or ns 0 0) e) eb ex
    ∙ ap (λ o. committed_as o f fs (seen w c.args.self.now.state)) c.in-StackFull.ensures
