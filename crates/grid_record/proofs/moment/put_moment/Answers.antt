use Rattle.std.proofs.Common.{◌≡◌, ◌++◌, ◌∷◌, [], ap}
use Rattle.std.proofs.lemmas.Result.{on_ok_weaker}
use Rattle.commit_flush.specs.Seen.{Seen}
use Rattle.grid_parts.specs.Seen.{seen}
use Rattle.grid_record.specs.Moments.{counts_bytes, frames_bytes, state_bytes, window_bytes}
use Rattle.grid_record.proofs.PieceFacts.{then_too, whole_is}
use Rattle.grid_record.proofs.moment.put_moment.Goals as goal

pub returns : goal.returns
returns c =
    let v = c.args.grid.now.window in
    let g = seen v.window c.args.grid.now.state in
    let counts = counts_bytes g.counts in
    let window = window_bytes v.budget v.window g.standing in
    let frames = frames_bytes v.image.blocks v.budget g in
    let state = state_bytes v.window in
    record {
      ok = on_ok_weaker c.put_state.result (λ e.
          then_too c.args.out.now.items (1 ∷ []) (counts ++ (window ++ (frames ++ state))) c.in_ok-put_byte.ensures.ok
          (then_too c.put_byte.new.out.items counts (window ++ (frames ++ state)) c.in_ok-put_counts.ensures.ok
          (then_too c.put_counts.new.out.items window (frames ++ state)
          (whole_is c.put_counts.new.out.items c.in_ok-put_window.ensures.ok
          (ap (λ (w : Seen). window_bytes w.budget w.window g.standing) c.window-window.ensures.value))
          (then_too c.put_window.new.out.items frames state c.in_ok-put_frames.ensures.ok
          (whole_is c.put_frames.new.out.items e
          (ap (λ (w : Seen). state_bytes w.window) c.window-window.ensures.value))))))
          c.put_state.ensures.ok;
    }
