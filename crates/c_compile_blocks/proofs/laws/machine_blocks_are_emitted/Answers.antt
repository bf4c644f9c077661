use Rattle.c_compile_blocks.proofs.Emitted.{gives_emitted}
use Rattle.c_compile_blocks.proofs.laws.machine_blocks_are_emitted.Goals as goal

pub returns : goal.returns
returns c = gives_emitted
