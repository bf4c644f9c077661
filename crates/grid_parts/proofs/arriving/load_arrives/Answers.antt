use Rattle.std.proofs.Common.{◌/◌, cond, sym, ap, ◌∙◌}
use Rattle.commit_flush_spec.specs.Frames.{at}
use Rattle.grid_cycle_spec.specs.inside.Arrivals.{asks, delivers, is_waiting}
use Rattle.grid_parts.specs.Seen.{seen}
use Rattle.grid_parts.specs.inside.Asked.{found_in}
use Rattle.grid_parts.proofs.FrameFacts.{frame_number}
use Rattle.grid_parts.proofs.arriving.load_arrives.Goals as goal

pub returns-then-is_waiting-clause-change : goal.returns-then-is_waiting-clause-change
returns-then-is_waiting-clause-change g c = λ f e.
    let v = c.args.grid.now.window in
    let w = g.V.Windows.held v in
    let here = seen w c.args.grid.now.state in
    let k = c.args.inst.number in
    let p = c.args.place in
    let bs = g.V.Windows.blocks v in
    let b = g.V.Windows.budget v in
    c.ask.ensures w
    ∙ ap (λ n. asks n k here) (sym (frame_number c.args.frame w.frames f e))
    ∙ ap (λ x. cond x (asks f.number k here) (delivers bs b f.number p here)) (c.if-is_waiting.ensures
    ∙ ap (λ o. is_waiting o (p / 2)) (c.waits_at.ensures ∙ ap (found_in (λ h. at h.requests k)) e))

pub returns-else-is_waiting-clause-change : goal.returns-else-is_waiting-clause-change
returns-else-is_waiting-clause-change g c = λ f e.
    let v = c.args.grid.now.window in
    let w = g.V.Windows.held v in
    let here = seen w c.args.grid.now.state in
    let k = c.args.inst.number in
    let p = c.args.place in
    let bs = g.V.Windows.blocks v in
    let b = g.V.Windows.budget v in
    c.delivers.ensures.change
    ∙ ap (λ n. delivers bs b n p here) (sym (frame_number c.args.frame w.frames f e))
    ∙ ap (λ x. cond x (asks f.number k here) (delivers bs b f.number p here)) (c.if-is_waiting.ensures
    ∙ ap (λ o. is_waiting o (p / 2)) (c.waits_at.ensures ∙ ap (found_in (λ h. at h.requests k)) e))

pub returns-then-is_waiting-clause-counts : goal.returns-then-is_waiting-clause-counts
returns-then-is_waiting-clause-counts g c =
    ap (λ x. x.counts) (c.ask.ensures (g.V.Windows.held c.args.grid.now.window))
