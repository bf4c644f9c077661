use Rattle.block_cases.proofs.AnyBits.{any_bits}
use Rattle.block_cases.proofs.law.any_bits_agree_with_a_case.Goals as goal

pub returns : goal.returns
returns c = any_bits
