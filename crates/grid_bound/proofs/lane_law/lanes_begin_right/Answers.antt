use Rattle.std.proofs.Common.{inr, arith}
use Rattle.grid_bound.proofs.lane_law.lanes_begin_right.Goals as goal

pub returns : goal.returns
returns W c = λ program course s entries weather. record { units = λ t. omega arith; stage = inr tt }
