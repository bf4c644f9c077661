use Rattle.std.proofs.Common.{◌∙◌, arith}
use Rattle.grid_parts.specs.Seen.{seen}
use Rattle.grid_parts.proofs.ForgetFacts.{flushed_is, flushed_none}
use Rattle.grid_parts.proofs.state.State.flush.Goals as goal

pub returns-then-gone-gt0 : goal.returns-then-gone-gt0
returns-then-gone-gt0 g c = λ w fs e. c.flush_under.ensures w
    ∙ flushed_is (seen w c.args.self.now) c.args.gone.now fs c.get-history.result e (omega arith)
    c.get-history.ensures.value

pub returns-else-gone-gt0 : goal.returns-else-gone-gt0
returns-else-gone-gt0 g c = λ w fs e. flushed_none (seen w c.args.self.now) c.args.gone.now fs e (omega arith)
