use Rattle.std.proofs.Common.{refl, ◌∙◌}
use Rattle.grid_parts.specs.Seen.{seen}
use Rattle.grid_parts.proofs.RequestFacts.{none_answered}
use Rattle.grid_tallies.proofs.Unread.{unasked_heard}
use Rattle.grid_tallies.proofs.data_tiles.answers.Goals as goal

pub returns-else-any_asked-clause-change : goal.returns-else-any_asked-clause-change
returns-else-any_asked-clause-change g c =
    let w = c.args.grid.now.window in
    none_answered (g.V.Windows.blocks w) (g.V.Windows.budget w) (seen (g.V.Windows.held w) c.args.grid.now.state)
    c.as_slice.result.now (c.as_slice.ensures.value ∙ c.numbers-frames.ensures.value) (c.if-any_asked.ensures refl)

pub returns-else-any_asked-clause-heard : goal.returns-else-any_asked-clause-heard
returns-else-any_asked-clause-heard g c =
    let w = c.args.grid.now.window in
    unasked_heard (g.V.Windows.blocks w) (g.V.Windows.budget w) (seen (g.V.Windows.held w) c.args.grid.now.state)
    c.args.told.now c.as_slice.result.now (c.as_slice.ensures.value ∙ c.numbers-frames.ensures.value)
    (c.if-any_asked.ensures refl)
