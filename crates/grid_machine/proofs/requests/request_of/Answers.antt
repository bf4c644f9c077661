use Rattle.std.proofs.Common.{false, ap, ◌∙◌}
use Rattle.commit_flush_spec.specs.Frames.{Frame}
use Rattle.commit_flush_spec.specs.Memory.{request}
use Rattle.frame_state.specs.inside.Held.{as_frame}
use Rattle.grid_parts.specs.inside.Asked.{request_at}
use Rattle.grid_machine.proofs.BlockFacts.{lent_runs}
use Rattle.grid_machine.proofs.RequestFacts.{slot_within}
use Rattle.grid_machine.proofs.ToldFacts.{found_none, found_some}
use Rattle.grid_machine.proofs.requests.request_of.Goals as goal

pub returns-in-None-clause-value : goal.returns-in-None-clause-value
returns-in-None-clause-value c =
    found_none (λ (f : Frame). request_at f (request f c.args.number)) c.args.frame c.args.window.now.window.frames
    c.in-None.ensures.value

pub returns-in-Some : goal.returns-in-Some
returns-in-Some c =
    let w = c.args.window.now in
    let ok = c.keeps_invariant.ensures in
    let h = c.in-Some.held.now in
    let b = c.in-Some.block.now in
    record {
      value = found_some (λ (f : Frame). request_at f (request f c.args.number)) c.args.frame w.window.frames h b _
          c.in-Some.ensures.value
          (λ sealed. c.with_tile.ensures b sealed ∙ ap (request_at (as_frame sealed b h)) c.request.ensures.value);
      within = slot_within b (lent_runs w.image.blocks w.budget w.window ok.window ok.blocks c.args.frame h b
          c.in-Some.ensures.value) h c.args.number _ _ c.request.ensures.value (c.with_tile.ensures b false);
    }
