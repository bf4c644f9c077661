use Rattle.std.proofs.Common.{ap, ◌∙◌}
use Rattle.grid_parts.specs.Fetches.{under_way}
use Rattle.grid_parts.specs.Seen.{seen}
use Rattle.grid_parts.proofs.PartFacts.{with_fetching}
use Rattle.grid_parts.proofs.state.State.begin.Goals as goal

pub returns : goal.returns
returns g c = λ w. ap (λ f. with_fetching f (seen w c.args.self.now))
    (c.begin.ensures ∙ ap (λ h. under_way 7 c.args.block h c.args.careful) c.history-history.ensures.value)
