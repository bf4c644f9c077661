use Rattle.std.proofs.Common.{◌≡◌, ◌+◌, sym, refl, ap, ◌∙◌, arith}
use Rattle.std.specs.Prelude.{is_some}
use Rattle.commit_flush_spec.specs.Frames.{at}
use Rattle.commit_flush_spec.specs.Ends.{all_below}
use Rattle.frame_state.proofs.CompleteFacts.{all_more, not_all}
use Rattle.frame_state.proofs.outcome.writes_came.Goals as goal

pub returns-then-not-write_came : goal.returns-then-not-write_came
returns-then-not-write_came c = record {
  value = sym (not_all (λ w. is_some (at c.args.spots.now (384 + w))) c.args.count c.loop-w.w (omega arith)
      (sym c.if-not-write_came.ensures));
}

pub loop-w-preserved : goal.loop-w-preserved
loop-w-preserved c = all_more (λ w. is_some (at c.args.spots.now (384 + w))) c.loop-w.w (c.loop-w.w + 1) refl
    (sym c.if-not-write_came.ensures) c.loop-w.invariant

pub returns : goal.returns
returns c =
    let all : c.args.count ≡ c.loop-w.w = omega arith in
    record {
      value = sym (ap (all_below (λ w. is_some (at c.args.spots.now (384 + w)))) all ∙ c.loop-w.invariant);
    }
