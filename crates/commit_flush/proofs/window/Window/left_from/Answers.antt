use Rattle.std.proofs.Common.{sym, ◌∙◌, ◌+◌, arith}
use Rattle.commit_flush.proofs.GapFacts.{untouched_gap}
use Rattle.commit_flush.proofs.LoadTold.{frame_there}
use Rattle.commit_flush.proofs.StoreTold.{sized_at, more_left, none_left, past_all}
use Rattle.commit_flush.proofs.window.Window.left_from.Goals as goal

pub loop-a-init : goal.loop-a-init
loop-a-init c =
    let e = c.accessing_from-a.ensures in
    record {
      within = e.within;
      left = untouched_gap _ c.args.self.now.window.frames c.args.from c.accessing_from-a.result
          e.onward e.within e.stores e.loads;
    }

pub returns-then-is_some : goal.returns-then-is_some
returns-then-is_some c =
    let fs = c.args.self.now.window.frames in
    let t = frame_there fs c.loop-a.a (omega arith) in
    let size = sized_at c.self.invariant.sound _ c.self.view_is c.loop-a.a t.0 t.1 in
    sym (c.loop-a.invariant.left ∙ none_left fs c.loop-a.a t.0 _ _ t.1 size (c.wrong_at.ensures.found t.0 t.1) _
    (c.wrong_at.ensures.left t.0 t.1) (sym c.is_some.ensures ∙ c.if-is_some.true))

pub loop-a-preserved : goal.loop-a-preserved
loop-a-preserved c =
    let fs = c.args.self.now.window.frames in
    let t = frame_there fs c.loop-a.a (omega arith) in
    let size = sized_at c.self.invariant.sound _ c.self.view_is c.loop-a.a t.0 t.1 in
    let e = c.accessing_from-a-in-loop-a.ensures in
    record {
      within = e.within;
      left = c.loop-a.invariant.left ∙ more_left fs c.loop-a.a t.0 _ _ t.1 size (c.wrong_at.ensures.found t.0 t.1) _
          (c.wrong_at.ensures.left t.0 t.1) (sym c.is_some.ensures ∙ c.if-is_some.false)
          ∙ untouched_gap _ fs (c.loop-a.a + 1) c.accessing_from-a-in-loop-a.result
          e.onward e.within e.stores e.loads;
    }

pub returns : goal.returns
returns c =
    let w = c.loop-a.invariant.within in
    past_all _ c.args.self.now.window.frames c.loop-a.a c.in_flight-count.result
    (let e = c.in_flight-count.ensures.value in (omega (arith, w, e), e)) c.loop-a.invariant.left
