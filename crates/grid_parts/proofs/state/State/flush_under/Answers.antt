use Rattle.grid_parts.specs.Seen.{seen}
use Rattle.grid_parts.proofs.ForgetFacts.{flush_parts}
use Rattle.grid_parts.proofs.state.State.flush_under.Goals as goal

pub returns : goal.returns
returns g c = λ w. flush_parts (seen w c.args.self.now) (seen w c.forget_all.new.self) c.args.history c.args.gone.now
    c.repair.new.self c.clear.new.self (c.forget_all.ensures.change w) c.repair.ensures c.clear.ensures
