use Rattle.commit_flush_spec.proofs.FramesSeen.{fresh_unguessed}
use Rattle.commit_flush_spec.proofs.Unflushed.{oldest_stays}
use Rattle.commit_flush_spec.proofs.law.driving_flushes_only_guesses.Goals as goal

pub returns-clause-kept : goal.returns-clause-kept
returns-clause-kept c = oldest_stays

pub returns-clause-filled : goal.returns-clause-filled
returns-clause-filled c = fresh_unguessed
