use Rattle.grid_cycle_spec.proofs.Routes.{bank_inside, data_inside, tile_inside, home_inside}
use Rattle.grid_cycle_spec.proofs.law.stations_are_nodes.Goals as goal

pub returns-clause-banks : goal.returns-clause-banks
returns-clause-banks c = bank_inside

pub returns-clause-data : goal.returns-clause-data
returns-clause-data c = data_inside

pub returns-clause-tiles : goal.returns-clause-tiles
returns-clause-tiles c = tile_inside

pub returns-clause-homes : goal.returns-clause-homes
returns-clause-homes c = home_inside
