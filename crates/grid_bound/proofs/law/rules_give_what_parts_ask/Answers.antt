use Rattle.grid_bound.proofs.Asked.{cycle_rule, due}
use Rattle.grid_bound.proofs.law.rules_give_what_parts_ask.Goals as goal

pub returns-clause-parts : goal.returns-clause-parts
returns-clause-parts W c = λ blocks budget g good ok went rule. cycle_rule blocks good budget g ok went rule

pub returns-clause-fetch : goal.returns-clause-fetch
returns-clause-fetch W c = due
