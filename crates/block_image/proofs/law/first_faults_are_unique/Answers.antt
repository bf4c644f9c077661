use Rattle.block_image.proofs.Decoded.{one_fault, not_both, either}
use Rattle.block_image.proofs.law.first_faults_are_unique.Goals as goal

pub returns-clause-one : goal.returns-clause-one
returns-clause-one c = one_fault

pub returns-clause-not_both : goal.returns-clause-not_both
returns-clause-not_both c = not_both

pub returns-clause-some : goal.returns-clause-some
returns-clause-some c = either
