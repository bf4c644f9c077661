use Rattle.std.proofs.Common.{◌≡◌, true}
use Rattle.frame_state.specs.inside.Held.{running}
use Rattle.commit_flush_spec.specs.inside.NextEvent.{stores_came}
use Rattle.commit_flush.proofs.allowed.stores_came.Given as goal

abbrev pub invariant-loop-lower : goal.invariant-loop-lower
invariant-loop-lower l = stores_came (running l.block l.held) l.lower ≡ true
