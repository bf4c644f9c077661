use Rattle.grid_cycle.proofs.Bounded.{ends_from, within_from, trapped_from, trapped_at_from}
use Rattle.grid_cycle.proofs.law.runs_from_a_state_end.Goals as goal

pub returns-clause-ends : goal.returns-clause-ends
returns-clause-ends c = ends_from

pub returns-clause-within : goal.returns-clause-within
returns-clause-within c = within_from

pub returns-clause-trapped : goal.returns-clause-trapped
returns-clause-trapped c = trapped_from

pub returns-clause-trapped_block : goal.returns-clause-trapped_block
returns-clause-trapped_block c = trapped_at_from
