use Rattle.std.proofs.Common.{ap, ◌∙◌}
use Rattle.commit_flush_spec.specs.Frames.{Frame}
use Rattle.commit_flush_spec.specs.Memory.{request}
use Rattle.frame_state.specs.inside.Held.{as_frame}
use Rattle.grid_cycle_spec.specs.DataTiles.{stored_by}
use Rattle.grid_events.specs.StationNotes.{is_null}
use Rattle.grid_machine.proofs.ToldFacts.{holds_none, holds_some}
use Rattle.grid_log.proofs.watching.null_in.Goals as goal

pub returns-in-None : goal.returns-in-None
returns-in-None c =
    holds_none (λ (f : Frame). is_null (stored_by f (request f c.args.number))) c.args.frame
    c.args.window.now.window.frames c.in-None.ensures.value

pub returns-in-Some : goal.returns-in-Some
returns-in-Some c =
    let h = c.in-Some.held.now in
    let b = c.in-Some.block.now in
    holds_some (λ (f : Frame). is_null (stored_by f (request f c.args.number))) c.args.frame
    c.args.window.now.window.frames h b _ c.in-Some.ensures.value
    (λ sealed. c.is_null.ensures ∙ ap is_null (c.stored_by.ensures b sealed
    ∙ ap (stored_by (as_frame sealed b h)) c.request.ensures.value))
