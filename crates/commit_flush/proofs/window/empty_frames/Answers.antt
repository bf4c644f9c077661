use Rattle.std.proofs.Common.{◌≡◌, ◌+◌, ap, sym, ◌∙◌, subst, arith, length, length-append}
use Rattle.commit_flush.specs.inside.Seen.{AreFresh, IsFresh}
use Rattle.commit_flush.proofs.OpenFacts.{one_more}
use Rattle.commit_flush.proofs.window.empty_frames.Goals as goal

pub loop-number-preserved : goal.loop-number-preserved
loop-number-preserved c =
    let s = c.loop-number.invariant.size in
    let here : c.loop-number.number ≡ 0 + length c.loop-number.frames.items = omega arith in
    record {
      size = ap length c.in_ok-push.ensures.items ∙ length-append c.loop-number.frames.items _
          ∙ ap (λ n. n + 1) s;
      fresh = subst (AreFresh 0) (sym c.in_ok-push.ensures.items)
          (one_more 0 c.loop-number.frames.items c.in_ok-frame.frame c.loop-number.invariant.fresh
          (subst (λ n. IsFresh n c.in_ok-frame.frame) here c.in_ok-frame.ensures));
    }
