use Rattle.commit_flush_spec.proofs.law.oldest_frames_are_never_stuck.Goals as goal
use Rattle.commit_flush_spec.proofs.Next.{never_stuck}

pub returns : goal.returns
returns c = never_stuck
