use Rattle.trips_isa.proofs.OperandFacts.{gives_is, answered_is, good_is}
use Rattle.trips_isa.proofs.law.operands_say_the_rule.Goals as goal

pub returns-clause-gives : goal.returns-clause-gives
returns-clause-gives c = gives_is

pub returns-clause-fired : goal.returns-clause-fired
returns-clause-fired c = answered_is

pub returns-clause-address : goal.returns-clause-address
returns-clause-address c = good_is
