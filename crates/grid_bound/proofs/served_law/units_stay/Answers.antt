use Rattle.grid_bound.proofs.UnitsKept.{ends_kept, fetches_kept, banks_kept, answers_kept, arrivals_kept}
use Rattle.grid_bound.proofs.served_law.units_stay.Goals as goal

pub returns-clause-ends : goal.returns-clause-ends
returns-clause-ends W c = λ blocks budget g. ends_kept blocks budget g

pub returns-clause-fetches : goal.returns-clause-fetches
returns-clause-fetches W c = λ blocks budget g. fetches_kept blocks budget g

pub returns-clause-banks : goal.returns-clause-banks
returns-clause-banks W c = λ blocks budget g. banks_kept blocks budget g

pub returns-clause-tiles : goal.returns-clause-tiles
returns-clause-tiles W c = λ blocks budget g. answers_kept blocks budget g

pub returns-clause-arrivals : goal.returns-clause-arrivals
returns-clause-arrivals W c = λ blocks budget ns g. arrivals_kept blocks budget ns g
