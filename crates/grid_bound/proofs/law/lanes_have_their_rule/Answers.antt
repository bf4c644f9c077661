use Rattle.grid_bound.proofs.LaneRules.{frame_lane, no_lane}
use Rattle.grid_bound.proofs.law.lanes_have_their_rule.Goals as goal

pub returns-clause-frame : goal.returns-clause-frame
returns-clause-frame W c = frame_lane

pub returns-clause-none : goal.returns-clause-none
returns-clause-none W c = no_lane
