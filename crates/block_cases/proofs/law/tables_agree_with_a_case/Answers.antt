use Rattle.block_cases.proofs.OneToken.{good_machine}
use Rattle.block_cases.proofs.law.tables_agree_with_a_case.Goals as goal

pub returns : goal.returns
returns c = good_machine
