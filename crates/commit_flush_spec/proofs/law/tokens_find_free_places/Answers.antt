use Rattle.commit_flush_spec.proofs.law.tokens_find_free_places.Goals as goal
use Rattle.commit_flush_spec.specs.Older.{committed}
use Rattle.commit_flush_spec.specs.Window.{plays}
use Rattle.commit_flush_spec.proofs.Whole.{plays_ok}
use Rattle.commit_flush_spec.proofs.Free.{all_free}

pub returns : goal.returns
returns c = λ blocks budget es w good ok.
    all_free blocks good (plays blocks budget es w).frames (committed (plays blocks budget es w).state)
    (plays_ok blocks good budget es w ok).frames
