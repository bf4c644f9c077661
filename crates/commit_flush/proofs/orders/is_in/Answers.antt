use Rattle.std.proofs.Common.{ap, ◌∙◌}
use Rattle.std.specs.Prelude.{is_some}
use Rattle.commit_flush.proofs.OrderFacts.{is_placed}
use Rattle.commit_flush.proofs.orders.is_in.Goals as goal

pub returns-in-None : goal.returns-in-None
returns-in-None c = ap is_some c.in-None.ensures.value ∙ is_placed c.args.number c.args.order.now

pub returns-in-Some : goal.returns-in-Some
returns-in-Some c = ap is_some c.in-Some.ensures.value ∙ is_placed c.args.number c.args.order.now
