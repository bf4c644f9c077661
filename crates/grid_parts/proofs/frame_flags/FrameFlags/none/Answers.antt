use Rattle.grid_parts.proofs.FlagFacts.{none_set}
use Rattle.grid_parts.proofs.frame_flags.FrameFlags.none.Goals as goal

pub returns : goal.returns
returns c = none_set 8
