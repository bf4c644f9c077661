use Rattle.std.proofs.Common.{refl, ◌∙◌}
use Rattle.grid_parts.specs.Seen.{seen}
use Rattle.grid_parts.proofs.RequestFacts.{none_answered}
use Rattle.grid_parts.proofs.grid.Grid.answers.Goals as goal

pub returns-else-any_asked-clause-change : goal.returns-else-any_asked-clause-change
returns-else-any_asked-clause-change g c =
    let w = c.args.self.now.window in
    none_answered (g.V.Windows.blocks w) (g.V.Windows.budget w) (seen (g.V.Windows.held w) c.args.self.now.state)
    c.as_slice.result.now (c.as_slice.ensures.value ∙ c.numbers-frames.ensures.value) (c.if-any_asked.ensures refl)
