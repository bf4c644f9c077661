use Rattle.std.proofs.Common.{length}
use Rattle.operand_net.proofs.Lossless.{keeps_trips}
use Rattle.operand_net.proofs.law.ticks_lose_nothing.Goals as goal

pub returns : goal.returns
returns g c = λ order before after v w ticked f p lp.
    keeps_trips g.W.Weather.next g.W.Weather.follows order before after v w (length order) ticked f p lp
