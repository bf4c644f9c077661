use Rattle.std.proofs.Common.{◌≡◌, ◌/◌, Some, None, true, false, cond, is_some, sym, ap, ◌∙◌, arith}
use Rattle.std.proofs.lemmas.Bool.{lt-ltb, le-ltb}
use Rattle.block_cases.specs.Orders.{slot_of}
use Rattle.commit_flush_spec.specs.Frames.{Frame}
use Rattle.grid_parts.specs.inside.Asked.{frame_of, found_in, block_of}
use Rattle.grid_parts.proofs.FrameFacts.{frame_number}
use Rattle.grid_parts.proofs.UnitFacts.{some_frame, no_frame}
use Rattle.grid_log.specs.declared.event.Event.TheVariants as event
use Rattle.grid_log.specs.inside.Telling.{inst_event, place_event}
use Rattle.grid_log.proofs.arriving.event_at.Goals as goal

pub returns-in-Some : goal.returns-in-Some
returns-in-Some g c =
    let v = c.args.window.now in
    let w = g.V.Windows.held v in
    let bs = g.V.Windows.blocks v in
    let p = c.args.place in
    let flies : is_some (block_of c.args.frame w.frames) ≡ true = cc in
    let found : (f : Frame) × (frame_of c.args.frame w.frames ≡ Some f) =
    some_frame (frame_of c.args.frame w.frames) flies in
    let is : slot_of found.0.code (p / 2) ≡ Some c.in-Some.inst =
    sym (c.in-Some.ensures.value ∙ ap (found_in (λ h. slot_of h.code (p / 2))) found.1) in
    c.slot_event.ensures found.0 found.1
    ∙ ap (λ o. inst_event bs o p found.0) (sym is)
    ∙ ap (λ b. cond b (inst_event bs (slot_of found.0.code (p / 2)) p found.0)
    (Some (event.Delivers found.0.number p))) (sym (lt-ltb p 256 (omega arith)))
    ∙ sym (ap (found_in (place_event bs p)) found.1)

pub returns-in-None : goal.returns-in-None
returns-in-None g c =
    let v = c.args.window.now in
    let w = g.V.Windows.held v in
    let bs = g.V.Windows.blocks v in
    let p = c.args.place in
    let flies : is_some (block_of c.args.frame w.frames) ≡ true = cc in
    let found : (f : Frame) × (frame_of c.args.frame w.frames ≡ Some f) =
    some_frame (frame_of c.args.frame w.frames) flies in
    let is : slot_of found.0.code (p / 2) ≡ None =
    sym (c.in-None.ensures.value ∙ ap (found_in (λ h. slot_of h.code (p / 2))) found.1) in
    ap (λ o. inst_event bs o p found.0) (sym is)
    ∙ ap (λ b. cond b (inst_event bs (slot_of found.0.code (p / 2)) p found.0)
    (Some (event.Delivers found.0.number p))) (sym (lt-ltb p 256 (omega arith)))
    ∙ sym (ap (found_in (place_event bs p)) found.1)

pub returns-else-place-lt256 : goal.returns-else-place-lt256
returns-else-place-lt256 g c =
    let v = c.args.window.now in
    let w = g.V.Windows.held v in
    let bs = g.V.Windows.blocks v in
    let p = c.args.place in
    let flies : is_some (block_of c.args.frame w.frames) ≡ true = cc in
    let found : (f : Frame) × (frame_of c.args.frame w.frames ≡ Some f) =
    some_frame (frame_of c.args.frame w.frames) flies in
    ap (λ n. Some (event.Delivers n p)) (sym (frame_number c.args.frame w.frames found.0 found.1))
    ∙ ap (λ b. cond b (inst_event bs (slot_of found.0.code (p / 2)) p found.0)
    (Some (event.Delivers found.0.number p))) (sym (le-ltb p 256 (omega arith)))
    ∙ sym (ap (found_in (place_event bs p)) found.1)

pub returns-else-is_some : goal.returns-else-is_some
returns-else-is_some g c =
    let v = c.args.window.now in
    let w = g.V.Windows.held v in
    let away : is_some (block_of c.args.frame w.frames) ≡ false = cc in
    sym (ap (found_in (place_event (g.V.Windows.blocks v) c.args.place))
    (no_frame (frame_of c.args.frame w.frames) away))
