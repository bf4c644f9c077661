use Rattle.grid_bound.proofs.AllDataTiles.{idle_tiles}
use Rattle.grid_bound.proofs.Idle.{idle_banks, idle_units}
use Rattle.grid_bound.proofs.served_law.idle_parts.Goals as goal

pub returns-clause-banks : goal.returns-clause-banks
returns-clause-banks W c = λ blocks budget g i. idle_banks blocks budget 4 g i

pub returns-clause-tiles : goal.returns-clause-tiles
returns-clause-tiles W c = λ blocks budget g i. idle_tiles blocks budget 4 g i

pub returns-clause-units : goal.returns-clause-units
returns-clause-units W c = λ blocks budget g i. idle_units blocks budget 16 g i
