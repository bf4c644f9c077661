use Rattle.std.proofs.Common.{Some, sym, ap, ap₂, ◌∙◌}
use Rattle.grid_parts.specs.inside.Asked.{found_in}
use Rattle.commit_flush_spec.specs.Frames.{at}
use Rattle.grid_events.specs.ArrivalNotes.{names}
use Rattle.grid_parts.proofs.FrameFacts.{frame_number}
use Rattle.grid_log.specs.declared.event.Event.TheVariants as event
use Rattle.grid_log.specs.inside.Telling.{load_event, slot_event}
use Rattle.grid_log.proofs.arriving.slot_event.Goals as goal

pub returns-in-Load : goal.returns-in-Load
returns-in-Load g c = λ f e.
    let w = g.V.Windows.held c.args.window.now in
    let bs = g.V.Windows.blocks c.args.window.now in
    c.load_event.ensures
    ∙ ap (λ o. load_event o c.args.frame c.args.place)
    (c.waits_at.ensures ∙ ap (found_in (λ h. at h.requests c.args.inst.number)) e)
    ∙ ap (λ n. load_event (at f.requests c.args.inst.number) n c.args.place)
    (sym (frame_number c.args.frame w.frames f e))
    ∙ ap (λ k. slot_event bs k c.args.inst c.args.place f) c.in-Load.ensures.value

pub returns-in-Store : goal.returns-in-Store
returns-in-Store g c = λ f e.
    ap (λ k. slot_event (g.V.Windows.blocks c.args.window.now) k c.args.inst c.args.place f) c.in-Store.ensures.value

pub returns-in-Branch : goal.returns-in-Branch
returns-in-Branch g c = λ f e.
    let w = g.V.Windows.held c.args.window.now in
    let bs = g.V.Windows.blocks c.args.window.now in
    ap₂ (λ n o. Some (event.Leaves n o)) (sym (frame_number c.args.frame w.frames f e))
    (c.leads_to.ensures ∙ ap (found_in (names bs)) e)
    ∙ ap (λ k. slot_event bs k c.args.inst c.args.place f) c.in-Branch.ensures.value

pub returns-in-General : goal.returns-in-General
returns-in-General g c = λ f e.
    let w = g.V.Windows.held c.args.window.now in
    ap (λ n. Some (event.Delivers n c.args.place)) (sym (frame_number c.args.frame w.frames f e))
    ∙ ap (λ k. slot_event (g.V.Windows.blocks c.args.window.now) k c.args.inst c.args.place f)
    c.in-General.ensures.value

pub returns-in-Immediate : goal.returns-in-Immediate
returns-in-Immediate g c = λ f e.
    let w = g.V.Windows.held c.args.window.now in
    ap (λ n. Some (event.Delivers n c.args.place)) (sym (frame_number c.args.frame w.frames f e))
    ∙ ap (λ k. slot_event (g.V.Windows.blocks c.args.window.now) k c.args.inst c.args.place f)
    c.in-Immediate.ensures.value

pub returns-in-Constant : goal.returns-in-Constant
returns-in-Constant g c = λ f e.
    let w = g.V.Windows.held c.args.window.now in
    ap (λ n. Some (event.Delivers n c.args.place)) (sym (frame_number c.args.frame w.frames f e))
    ∙ ap (λ k. slot_event (g.V.Windows.blocks c.args.window.now) k c.args.inst c.args.place f)
    c.in-Constant.ensures.value
