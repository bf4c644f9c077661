-- What is told of a frame that runs: what waits with its address, what it lacks, and which reads are open. Nothing is
-- told of a sealed frame, nor where no frame is in flight.
use Rattle.std.specs.Prelude.{Bool, true, cond, ◌||◌, Option, Some, None}
use Rattle.commit_flush_spec.specs.Frames.{Frame}
use Rattle.commit_flush_spec.specs.Ends.{complete}
use Rattle.frame_state.specs.declared.parts.Lack.{Lack}
use Rattle.frame_state.specs.Lacks.{least_lack}

-- the least output that the frame lacks
abbrev pub lack_in : Option Frame → Option Lack
lack_in None = None
lack_in (Some f) = cond f.sealed None (least_lack f)

-- whether no frame runs here, or one that has all its outputs
abbrev pub is_whole_in : Option Frame → Bool
is_whole_in None = true
is_whole_in (Some f) = f.sealed || complete f
