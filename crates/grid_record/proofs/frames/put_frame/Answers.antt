use Rattle.std.proofs.Common.{◌≡◌, ℕ, Bool, List, ◌++◌, sym, ap, ◌∙◌}
use Rattle.std.proofs.lemmas.Result.{on_ok_weaker}
use Rattle.operand_net.specs.Marks.{has_bit}
use Rattle.commit_flush.specs.Seen.{Seen}
use Rattle.commit_flush.specs.inside.Places.{frame_of}
use Rattle.commit_flush_spec.specs.Window.{Fire}
use Rattle.frame_state.specs.inside.Held.{as_frame}
use Rattle.grid_cycle_spec.specs.Acting.{may}
use Rattle.grid_parts.specs.Seen.{seen}
use Rattle.grid_record.specs.Moments.{flying_bytes, frame_bytes}
use Rattle.grid_record.proofs.FrameFacts.{flying_same}
use Rattle.grid_record.proofs.frames.put_frame.Goals as goal

pub returns-in-None : goal.returns-in-None
returns-in-None c =
    let v = c.args.grid.now.window in
    let g = seen v.window c.args.grid.now.state in
    let ready : ℕ → Bool = λ s. may v.image.blocks v.budget (Fire c.args.frame s) g in
    let none = sym (ap (λ (w : Seen). frame_of c.args.frame w.window.frames) c.window-window.ensures.value)
    ∙ c.in-None.ensures.value in
    record {
      ok = on_ok_weaker c.put_byte.result (λ e. e ∙ ap (λ o. c.args.out.now.items
          ++ frame_bytes (g.careful c.args.frame) ready o) (sym none)) c.put_byte.ensures.ok;
    }

pub returns-in-Some : goal.returns-in-Some
returns-in-Some c =
    let v = c.args.grid.now.window in
    let g = seen v.window c.args.grid.now.state in
    let ready : ℕ → Bool = λ s. may v.image.blocks v.budget (Fire c.args.frame s) g in
    let h = c.in-Some.held.now in
    let b = c.in-Some.field-0-1.now in
    let lent = c.in-Some.ensures.value in
    let here = sym (ap (λ (w : Seen). frame_of c.args.frame w.window.frames) c.window-window.ensures.value)
    ∙ lent.1 in
    let bytes : flying_bytes c.has-careful.result (has_bit c.ready-ready.result)
    (as_frame c.is_sealed-sealed.result b h)
    ≡ frame_bytes (g.careful c.args.frame) ready (frame_of c.args.frame v.window.frames) =
    ap (λ s. flying_bytes c.has-careful.result (has_bit c.ready-ready.result) (as_frame s b h))
    (c.is_sealed-sealed.ensures (as_frame lent.0 b h) lent.1)
    ∙ flying_same c.has-careful.result (has_bit c.ready-ready.result) ready (as_frame lent.0 b h)
    c.ready-ready.ensures
    ∙ ap (λ x. flying_bytes x ready (as_frame lent.0 b h)) c.has-careful.ensures.value
    ∙ ap (frame_bytes (g.careful c.args.frame) ready) (sym here) in
    record {
      ok = on_ok_weaker c.put_flying.result (λ e. e ∙ ap (λ (xs : List ℕ). c.args.out.now.items ++ xs) bytes)
          (c.put_flying.ensures.ok b);
    }
