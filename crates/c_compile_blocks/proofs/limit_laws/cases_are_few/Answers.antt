use Rattle.c_compile_blocks.proofs.Choosing.{few_cases}
use Rattle.c_compile_blocks.proofs.limit_laws.cases_are_few.Goals as goal

pub returns : goal.returns
returns c = few_cases
