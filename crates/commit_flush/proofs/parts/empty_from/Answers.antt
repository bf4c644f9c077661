use Rattle.std.proofs.Common.{◌≡◌, ◌+◌, ◌<◌, suc, set, drop, take, length, get_or, sym, ap, ◌∙◌, subst, arith, refl}
use Rattle.std.proofs.lemmas.Option.{slice_get_read}
use Rattle.commit_flush.specs.inside.Emptied.{IsEmptied}
use Rattle.commit_flush.proofs.DropFacts.{none_emptied, more_emptied, taken_more, taken_none, taken_all}
use Rattle.commit_flush.proofs.parts.empty_from.Goals as goal

pub loop-a-init : goal.loop-a-init
loop-a-init c =
    subst (λ ns. IsEmptied ns c.args.frames.now.items c.args.frames.now.items)
    (sym (taken_none c.args.order.now c.args.from)) (none_emptied c.args.frames.now.items)

pub loop-a-preserved : goal.loop-a-preserved
loop-a-preserved c =
    let order = c.args.order.now in
    let n = get_or order c.loop-a.a 0 in
    let frames = c.loop-a.frames.items in
    let size = c.loop-a.invariant.size in
    let small = c.requires c.loop-a.a 0 (omega arith) in
    let below : get_or order c.loop-a.a 0 < length frames = omega (arith, small, size) in
    let is = slice_get_read frames (length frames) n c.index_mut.result.now refl below c.index_mut.ensures.value in
    let next : suc c.loop-a.a ≡ c.loop-a.a + 1 = omega arith in
    subst (λ ns. IsEmptied ns c.args.frames.now.items (set frames n c.empty_in.new.phase))
    (taken_more order c.args.from c.loop-a.a (omega arith) (omega arith)
    ∙ ap (λ k. drop c.args.from (take k order)) next)
    (more_emptied _ c.args.frames.now.items frames n c.index_mut.result.now c.empty_in.new.phase c.loop-a.invariant is
    c.empty_in.ensures.keeps c.empty_in.ensures.frame c.empty_in.ensures.block)

pub returns : goal.returns
returns c =
    subst (λ ns. IsEmptied ns c.args.frames.now.items c.loop-a.frames.items)
    (taken_all c.args.order.now c.args.from c.loop-a.a (omega arith)) c.loop-a.invariant
