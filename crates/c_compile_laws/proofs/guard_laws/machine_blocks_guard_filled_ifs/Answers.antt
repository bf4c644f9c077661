use Rattle.c_compile_laws.proofs.Machines.{machines}
use Rattle.c_compile_laws.proofs.guard_laws.machine_blocks_guard_filled_ifs.Goals as goal

pub returns : goal.returns
returns c = machines
