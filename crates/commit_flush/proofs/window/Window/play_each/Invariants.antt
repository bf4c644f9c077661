use Rattle.std.proofs.Common.{◌≡◌, take}
use Rattle.commit_flush_spec.specs.Window.{plays}
use Rattle.frame_state.specs.Events.{as_events}
use Rattle.commit_flush.proofs.window.Window.play_each.Given as goal

abbrev pub invariant-loop-e : goal.invariant-loop-e
invariant-loop-e l = l.self ≡ record l.fn.self {
  window = plays l.fn.self.image.blocks l.fn.self.budget (as_events (take l.e-index l.events)) l.fn.self.window;
}
