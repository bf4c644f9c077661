use Rattle.block_cases.proofs.MarkLemmas.{only_marking, pulled_is_marking}
use Rattle.block_cases.proofs.JointLemmas.{joint_is}
use Rattle.block_cases.proofs.marks_law.markings_are_unique.Goals as goal

pub returns-clause-only : goal.returns-clause-only
returns-clause-only c = only_marking

pub returns-clause-some : goal.returns-clause-some
returns-clause-some c = pulled_is_marking

pub returns-clause-joint : goal.returns-clause-joint
returns-clause-joint c = λ b r regs mem x. joint_is b regs mem r x
