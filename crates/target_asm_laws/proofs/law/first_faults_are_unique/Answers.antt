use Rattle.target_asm_laws.proofs.Judged.{some_of}
use Rattle.target_asm_laws.proofs.FaultExact.{one, not_both}
use Rattle.target_asm_laws.proofs.law.first_faults_are_unique.Goals as goal

pub returns-clause-one : goal.returns-clause-one
returns-clause-one c = one

pub returns-clause-not_both : goal.returns-clause-not_both
returns-clause-not_both c = not_both

pub returns-clause-some : goal.returns-clause-some
returns-clause-some c = some_of
