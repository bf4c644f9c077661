use Rattle.commit_flush_spec.specs.inside.Work.{work}
use Rattle.commit_flush.specs.inside.Known.{IsKnown}
use Rattle.commit_flush.proofs.DriveFacts.{IsOn}
use Rattle.commit_flush.proofs.driving.drive.Given as goal

abbrev pub invariant-loop-e : goal.invariant-loop-e
invariant-loop-e l = record {
  on : IsOn l.fn.window l.window;
  known : IsKnown l.window.image.blocks l.known;
}

abbrev pub decreases-loop-e : goal.decreases-loop-e
decreases-loop-e l = work l.window.budget l.window.window
