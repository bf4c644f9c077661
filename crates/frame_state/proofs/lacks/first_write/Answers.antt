use Rattle.std.proofs.Common.{◌+◌, sym, refl, ◌∙◌, arith}
use Rattle.std.specs.Prelude.{is_some}
use Rattle.commit_flush_spec.specs.Frames.{at}
use Rattle.frame_state.proofs.LackFacts.{starts, missing_here, come_here, none_left}
use Rattle.frame_state.proofs.lacks.first_write.Goals as goal

pub loop-w-init : goal.loop-w-init
loop-w-init c = starts (λ w. is_some (at c.args.spots.now (384 + w))) c.args.count

pub returns-then-not-write_came : goal.returns-then-not-write_came
returns-then-not-write_came c =
    sym (c.loop-w.invariant ∙ missing_here (λ w. is_some (at c.args.spots.now (384 + w))) c.args.count c.loop-w.w
    (omega arith) (sym c.if-not-write_came.ensures))

pub loop-w-preserved : goal.loop-w-preserved
loop-w-preserved c =
    c.loop-w.invariant ∙ come_here (λ w. is_some (at c.args.spots.now (384 + w))) c.args.count c.loop-w.w
    (c.loop-w.w + 1) (omega arith) refl (sym c.if-not-write_came.ensures)

pub returns : goal.returns
returns c =
    sym (c.loop-w.invariant
    ∙ none_left (λ w. is_some (at c.args.spots.now (384 + w))) c.args.count c.loop-w.w (omega arith))
