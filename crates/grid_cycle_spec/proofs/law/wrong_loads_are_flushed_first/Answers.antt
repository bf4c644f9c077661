use Rattle.grid_cycle_spec.proofs.FlushedFirst.{flushed_first}
use Rattle.grid_cycle_spec.proofs.law.wrong_loads_are_flushed_first.Goals as goal

pub returns : goal.returns
returns c = λ blocks budget m n w ok. flushed_first blocks budget m n w ok
