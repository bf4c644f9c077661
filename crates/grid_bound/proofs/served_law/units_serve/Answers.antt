use Rattle.grid_bound.proofs.Turned.{units_work}
use Rattle.grid_bound.proofs.served_law.units_serve.Goals as goal

pub returns : goal.returns
returns W c = λ blocks budget g f fs t good i ok went runs tells rules.
    units_work blocks good budget t g f fs i ok went runs tells rules
