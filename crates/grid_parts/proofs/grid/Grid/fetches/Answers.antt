use Rattle.std.proofs.Common.{ap, ◌∙◌}
use Rattle.grid_cycle_spec.specs.Fetches.{begins}
use Rattle.grid_parts.specs.Seen.{seen}
use Rattle.grid_parts.proofs.grid.Grid.fetches.Goals as goal

pub returns-clause-change : goal.returns-clause-change
returns-clause-change g c =
    c.fetch_begins.ensures.change
    ∙ ap (λ bs. begins bs (seen (g.V.Windows.held c.fetch_goes_on.new.self.window) c.fetch_goes_on.new.self.state))
    c.fetch_goes_on.ensures.image
    ∙ ap (begins (g.V.Windows.blocks c.args.self.now.window)) c.fetch_goes_on.ensures.change
