use Rattle.std.proofs.Common.{arith, refl}
use Rattle.commit_flush.proofs.PlayFacts.{played_seen}
use Rattle.commit_flush.proofs.window.Window.play_each.Goals as goal

pub loop-e-preserved : goal.loop-e-preserved
loop-e-preserved c = played_seen c.args.self.now c.args.events.now c.loop-e.e-index _ _ _ _ (omega arith) refl
    c.loop-e.invariant c.event.ensures.window
