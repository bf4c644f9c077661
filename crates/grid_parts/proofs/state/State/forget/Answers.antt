use Rattle.grid_parts.specs.Seen.{seen}
use Rattle.grid_parts.proofs.ForgetFacts.{three_same}
use Rattle.grid_parts.proofs.state.State.forget.Goals as goal

pub returns-clause-change : goal.returns-clause-change
returns-clause-change g c = λ w. three_same (seen w c.args.self.now) _ _ _ _ _ _
    c.clear.ensures c.clear-2.ensures c.clear-3.ensures
