use Rattle.std.proofs.Common.{◌==◌, sym, ap, ◌∙◌}
use Rattle.grid_cycle_spec.specs.Acting.{settled}
use Rattle.grid_cycle_spec.specs.Ends.{learning}
use Rattle.grid_cycle_spec.specs.Grid.{forget}
use Rattle.grid_parts.specs.inside.Changes.{committed_more}
use Rattle.grid_parts.specs.Seen.{seen}
use Rattle.grid_parts.proofs.grid.Grid.commits.Goals as goal

pub returns-clause-change : goal.returns-clause-change
returns-clause-change g c = λ f en eb ex.
    let w = g.V.Windows.held c.args.self.now.window in
    let now = g.V.Windows.held c.learn_exit.new.self.window in
    let here = seen w c.args.self.now.state in
    c.settle.ensures now (sym c.successor-known.ensures)
    ∙ ap settled (c.forget.ensures.change now)
    ∙ ap (λ x. settled (forget (λ m. m == c.args.frame) x)) (c.learn_exit.ensures.change f en eb ex)
    ∙ ap (λ x. settled (forget (λ m. m == c.args.frame) (learning f f.exit x))) (c.count_commit.ensures w)
    ∙ ap (λ n. settled (forget (λ m. m == n) (learning f f.exit (committed_more here)))) (sym en)
