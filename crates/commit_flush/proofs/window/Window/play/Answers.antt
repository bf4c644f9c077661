use Rattle.frame_state.specs.Events.{as_events}
use Rattle.commit_flush.proofs.FlushFacts.{all_rest_seen, steps_seen}
use Rattle.commit_flush.proofs.window.Window.play.Goals as goal

pub returns-clause-steps : goal.returns-clause-steps
returns-clause-steps c = λ went. steps_seen c.args.self.now _ c.keeps_invariant.ensures.window
    (as_events c.args.events.now) c.keeps_invariant.ensures.blocks went c.play_each.ensures

pub returns-clause-rests : goal.returns-clause-rests
returns-clause-rests c = λ n. all_rest_seen c.args.self.now _ (as_events c.args.events.now)
    c.keeps_invariant.ensures.window n c.play_each.ensures
