use Rattle.commit_flush_spec.specs.Frames.{Frame, at}
use Rattle.grid_machine.proofs.ToldFacts.{found_none, found_some}
use Rattle.grid_machine.proofs.requests.waits_at.Goals as goal

pub returns-in-None : goal.returns-in-None
returns-in-None c =
    found_none (λ (f : Frame). at f.requests c.args.number) c.args.frame c.args.window.now.window.frames
    c.in-None.ensures.value

pub returns-in-Some : goal.returns-in-Some
returns-in-Some c =
    found_some (λ (f : Frame). at f.requests c.args.number) c.args.frame c.args.window.now.window.frames
    c.in-Some.held.now c.in-Some.field-0-1.now _ c.in-Some.ensures.value (λ sealed. c.asked.ensures.value)
