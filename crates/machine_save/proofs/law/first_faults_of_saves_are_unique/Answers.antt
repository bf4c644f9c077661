use Rattle.machine_save.proofs.Opened.{one_fault, not_both}
use Rattle.machine_save.proofs.law.first_faults_of_saves_are_unique.Goals as goal

pub returns-clause-one : goal.returns-clause-one
returns-clause-one c = one_fault

pub returns-clause-not_both : goal.returns-clause-not_both
returns-clause-not_both c = not_both
