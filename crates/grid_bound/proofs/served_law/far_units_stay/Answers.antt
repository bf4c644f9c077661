use Rattle.grid_bound.proofs.FarUnits.{far_cycle}
use Rattle.grid_bound.proofs.served_law.far_units_stay.Goals as goal

pub returns : goal.returns
returns W c = λ blocks budget g h t l m. far_cycle blocks budget t l _ _ g h m
