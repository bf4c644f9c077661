use Rattle.std.proofs.Common.{sym, ap, ap₂, ◌∙◌}
use Rattle.grid_cycle_spec.specs.Acting.{still, standing_on}
use Rattle.grid_parts.specs.Seen.{seen}
use Rattle.grid_parts.proofs.PartFacts.{with_next}
use Rattle.grid_parts.proofs.state.State.settle.Goals as goal

pub returns : goal.returns
returns g c = λ w e. ap₂ (λ f k. with_next f k (seen w c.args.self.now))
    (c.settle.ensures ∙ ap (λ k. still k c.args.self.now.fetching) (sym e))
    (c.standing_on-self.ensures ∙ ap (λ k. standing_on k c.args.self.now.standing) (sym e))
