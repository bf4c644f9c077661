use Rattle.grid_cycle.proofs.Bounded.{runs_end, runs_within, runs_trapped, runs_trapped_at}
use Rattle.grid_cycle.proofs.law.runs_from_the_start_end.Goals as goal

pub returns-clause-ends : goal.returns-clause-ends
returns-clause-ends c = runs_end

pub returns-clause-within : goal.returns-clause-within
returns-clause-within c = runs_within

pub returns-clause-trapped : goal.returns-clause-trapped
returns-clause-trapped c = runs_trapped

pub returns-clause-trapped_block : goal.returns-clause-trapped_block
returns-clause-trapped_block c = runs_trapped_at
