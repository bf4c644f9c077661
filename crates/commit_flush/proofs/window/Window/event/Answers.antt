use Rattle.std.proofs.Common.{sym, ◌∙◌, [], ◌∷◌}
use Rattle.frame_state.specs.Events.{as_event}
use Rattle.commit_flush.proofs.FlushFacts.{flushed_seen, rests_seen, stays_seen, steps_seen}
use Rattle.commit_flush.proofs.window.Window.event.Goals as goal

pub returns-clause-steps : goal.returns-clause-steps
returns-clause-steps c = λ went. steps_seen c.args.self.now _ c.keeps_invariant.ensures.window
    (as_event c.args.e ∷ [])
    c.keeps_invariant.ensures.blocks went c.event_or_over.ensures.window

pub returns-clause-others : goal.returns-clause-others
returns-clause-others c = λ n. stays_seen c.args.self.now _ c.keeps_invariant.ensures.window (as_event c.args.e)
    c.event_or_over.ensures.window n

pub returns-clause-rests : goal.returns-clause-rests
returns-clause-rests c = λ n. rests_seen c.args.self.now _ c.keeps_invariant.ensures.window (as_event c.args.e)
    c.event_or_over.ensures.window n

pub returns-clause-flushed : goal.returns-clause-flushed
returns-clause-flushed c = λ d t. flushed_seen c.args.self.now _ c.keeps_invariant.ensures.window (as_event c.args.e)
    c.event_or_over.ensures.window (sym c.event_or_over.ensures.answer ∙ d) t
