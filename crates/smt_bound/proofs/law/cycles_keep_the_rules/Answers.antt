use Rattle.smt_bound.proofs.CycleKeepsRule.{rules_kept}
use Rattle.smt_bound.proofs.law.cycles_keep_the_rules.Goals as goal

pub returns : goal.returns
returns W c = λ images budget g h goods bound rules cycle. rules_kept images budget _ _ bound g h cycle goods rules
