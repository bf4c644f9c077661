use Rattle.std.proofs.Common.{Some, ap, ◌∙◌}
use Rattle.commit_flush_spec.specs.inside.NextEvent.{event_of}
use Rattle.commit_flush.specs.inside.Steps.{event_at}
use Rattle.commit_flush.proofs.next.next_at.Goals as goal

pub returns-in-None : goal.returns-in-None
returns-in-None c = λ s.
    ap (event_of (event_at c.args.step c.args.held.now.number)) (c.in-None.ensures.value s)

pub returns-in-Some : goal.returns-in-Some
returns-in-Some c = λ s.
    ap Some (c.event.ensures.value ∙ ap (λ n. event_at c.args.step n c.in-Some.number) c.number-frame.ensures.value)
    ∙ ap (event_of (event_at c.args.step c.args.held.now.number)) (c.in-Some.ensures.value s)
