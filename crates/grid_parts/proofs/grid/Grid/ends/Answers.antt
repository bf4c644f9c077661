use Rattle.std.proofs.Common.{ap, ap₂, ◌∙◌}
use Rattle.grid_cycle_spec.specs.Ends.{commit_oldest, seal_each}
use Rattle.grid_parts.specs.Seen.{seen}
use Rattle.grid_parts.proofs.grid.Grid.ends.Goals as goal

pub returns-clause-change : goal.returns-clause-change
returns-clause-change g c =
    let v = c.args.self.now.window in
    let bs = g.V.Windows.blocks v in
    let b = g.V.Windows.budget v in
    c.commit_oldest.ensures.change
    ∙ ap₂ (λ x y. commit_oldest x y (seen (g.V.Windows.held c.seal_each.new.self.window) c.seal_each.new.self.state))
    c.seal_each.ensures.image c.seal_each.ensures.budget
    ∙ ap (commit_oldest bs b) c.seal_each.ensures.change
    ∙ ap (λ ns. commit_oldest bs b (seal_each bs b ns (seen (g.V.Windows.held v) c.args.self.now.state)))
    (c.as_slice.ensures.value ∙ c.numbers-frames.ensures.value)
