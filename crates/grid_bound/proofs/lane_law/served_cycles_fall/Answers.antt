use Rattle.grid_bound.proofs.lane_law.served_cycles_fall.Goals as goal
use Rattle.grid_bound.proofs.Served.{left_some, left_most, served_falls}

pub returns-clause-least : goal.returns-clause-least
returns-clause-least c = left_some

pub returns-clause-most : goal.returns-clause-most
returns-clause-most c = left_most

pub returns-clause-falls : goal.returns-clause-falls
returns-clause-falls c = served_falls
