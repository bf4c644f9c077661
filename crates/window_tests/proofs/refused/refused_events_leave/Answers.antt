use Rattle.std.proofs.Common.{◌∙◌}
use Rattle.frame_state.specs.Events.{as_event}
use Rattle.window_tests.proofs.Stays.{stays_seen}
use Rattle.window_tests.proofs.refused.refused_events_leave.Goals as goal

pub returns : goal.returns
returns c = record {
  left = λ n. stays_seen c.args.window.now _ (as_event c.args.e) c.event.ensures.window
      (λ d. n (c.event.ensures.answer ∙ d));
}
