use Rattle.frame_state.proofs.law.empty_frames_may_be_filled.Goals as goal
use Rattle.frame_state.proofs.PhaseFacts.{may_be_filled}

pub returns : goal.returns
returns c = may_be_filled
