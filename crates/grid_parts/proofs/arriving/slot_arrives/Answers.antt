use Rattle.std.proofs.Common.{sym, ap, ◌∙◌, arith}
use Rattle.trips_isa.specs.declared.run.Counts.{Counts}
use Rattle.commit_flush_spec.specs.Window.{Exit}
use Rattle.grid_cycle_spec.specs.Acting.{act}
use Rattle.grid_cycle_spec.specs.inside.Arrivals.{asks, delivers, slot_arrives}
use Rattle.grid_parts.specs.Seen.{seen}
use Rattle.grid_parts.proofs.FrameFacts.{frame_number}
use Rattle.grid_parts.proofs.arriving.slot_arrives.Goals as goal

pub returns-in-Load-clause-change : goal.returns-in-Load-clause-change
returns-in-Load-clause-change g c = λ f e.
    let v = c.args.grid.now.window in
    let w = g.V.Windows.held v in
    let here = seen w c.args.grid.now.state in
    let bs = g.V.Windows.blocks v in
    let b = g.V.Windows.budget v in
    c.load_arrives.ensures.change f e
    ∙ ap (λ k. slot_arrives bs b k c.args.inst c.args.place f here) c.in-Load.ensures.value

pub returns-in-Store-clause-change : goal.returns-in-Store-clause-change
returns-in-Store-clause-change g c = λ f e.
    let v = c.args.grid.now.window in
    let w = g.V.Windows.held v in
    let here = seen w c.args.grid.now.state in
    let bs = g.V.Windows.blocks v in
    let b = g.V.Windows.budget v in
    c.ask.ensures w
    ∙ ap (λ n. asks n c.args.inst.number here) (sym (frame_number c.args.frame w.frames f e))
    ∙ ap (λ k. slot_arrives bs b k c.args.inst c.args.place f here) c.in-Store.ensures.value

pub returns-in-Branch-clause-change : goal.returns-in-Branch-clause-change
returns-in-Branch-clause-change g c = λ f e.
    let v = c.args.grid.now.window in
    let w = g.V.Windows.held v in
    let here = seen w c.args.grid.now.state in
    let bs = g.V.Windows.blocks v in
    let b = g.V.Windows.budget v in
    c.branch_arrives.ensures.change
    ∙ ap (λ n. act bs b (Exit n) here) (sym (frame_number c.args.frame w.frames f e))
    ∙ ap (λ k. slot_arrives bs b k c.args.inst c.args.place f here) c.in-Branch.ensures.value

pub returns-in-General-clause-change : goal.returns-in-General-clause-change
returns-in-General-clause-change g c = λ f e.
    let v = c.args.grid.now.window in
    let w = g.V.Windows.held v in
    let here = seen w c.args.grid.now.state in
    let bs = g.V.Windows.blocks v in
    let b = g.V.Windows.budget v in
    c.delivers.ensures.change
    ∙ ap (λ n. delivers bs b n c.args.place here) (sym (frame_number c.args.frame w.frames f e))
    ∙ ap (λ k. slot_arrives bs b k c.args.inst c.args.place f here) c.in-General.ensures.value

pub returns-in-Immediate-clause-change : goal.returns-in-Immediate-clause-change
returns-in-Immediate-clause-change g c = λ f e.
    let v = c.args.grid.now.window in
    let w = g.V.Windows.held v in
    let here = seen w c.args.grid.now.state in
    let bs = g.V.Windows.blocks v in
    let b = g.V.Windows.budget v in
    c.delivers-in-Immediate.ensures.change
    ∙ ap (λ n. delivers bs b n c.args.place here) (sym (frame_number c.args.frame w.frames f e))
    ∙ ap (λ k. slot_arrives bs b k c.args.inst c.args.place f here) c.in-Immediate.ensures.value

pub returns-in-Constant-clause-change : goal.returns-in-Constant-clause-change
returns-in-Constant-clause-change g c = λ f e.
    let v = c.args.grid.now.window in
    let w = g.V.Windows.held v in
    let here = seen w c.args.grid.now.state in
    let bs = g.V.Windows.blocks v in
    let b = g.V.Windows.budget v in
    c.delivers-in-Constant.ensures.change
    ∙ ap (λ n. delivers bs b n c.args.place here) (sym (frame_number c.args.frame w.frames f e))
    ∙ ap (λ k. slot_arrives bs b k c.args.inst c.args.place f here) c.in-Constant.ensures.value

pub returns-in-Load-clause-few : goal.returns-in-Load-clause-few
returns-in-Load-clause-few g c =
    let same = ap (λ (x : Counts). x.flushed) c.load_arrives.ensures.counts in omega (arith, same)

pub returns-in-General-clause-few : goal.returns-in-General-clause-few
returns-in-General-clause-few g c =
    let same = ap (λ (x : Counts). x.flushed) c.delivers.ensures.counts in omega (arith, same)

pub returns-in-Immediate-clause-few : goal.returns-in-Immediate-clause-few
returns-in-Immediate-clause-few g c =
    let same = ap (λ (x : Counts). x.flushed) c.delivers-in-Immediate.ensures.counts in omega (arith, same)

pub returns-in-Constant-clause-few : goal.returns-in-Constant-clause-few
returns-in-Constant-clause-few g c =
    let same = ap (λ (x : Counts). x.flushed) c.delivers-in-Constant.ensures.counts in omega (arith, same)

pub returns-in-Store-clause-few : goal.returns-in-Store-clause-few
returns-in-Store-clause-few g c =
    let same = ap (λ x. x.counts.flushed) (c.ask.ensures (g.V.Windows.held c.args.grid.now.window)) in
    omega (arith, same)
