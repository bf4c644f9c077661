use Rattle.c_compile_blocks.proofs.FittingPrograms.{only_memory}
use Rattle.c_compile_blocks.proofs.limit_laws.only_memory_refuses.Goals as goal

pub returns : goal.returns
returns c = only_memory
