use Rattle.target_asm_laws.proofs.FaultExact.{met}
use Rattle.target_asm_laws.proofs.law.first_faults_are_met.Goals as goal

pub returns : goal.returns
returns c = record { met = met }
