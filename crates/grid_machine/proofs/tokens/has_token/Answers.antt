use Rattle.std.proofs.Common.{is_some}
use Rattle.commit_flush_spec.specs.Frames.{Frame, at}
use Rattle.grid_machine.proofs.ToldFacts.{holds_none, holds_some}
use Rattle.grid_machine.proofs.tokens.has_token.Goals as goal

pub returns-in-None : goal.returns-in-None
returns-in-None c =
    holds_none (λ (f : Frame). is_some (at f.places c.args.place)) c.args.frame c.args.window.now.window.frames
    c.in-None.ensures.value

pub returns-in-Some : goal.returns-in-Some
returns-in-Some c =
    holds_some (λ (f : Frame). is_some (at f.places c.args.place)) c.args.frame c.args.window.now.window.frames
    c.in-Some.held.now c.in-Some.field-0-1.now _ c.in-Some.ensures.value (λ sealed. c.has_token.ensures.value)
