use Rattle.std.proofs.Common.{◌+◌, refl, ap, ◌∙◌}
use Rattle.trips_isa.specs.Marks.{least}
use Rattle.commit_flush_spec.specs.Marks.{mark_held}
use Rattle.frame_state.proofs.LeastFacts.{writes_next}
use Rattle.frame_state.proofs.body.Body.least_of_writes.Goals as goal

pub loop-w-preserved : goal.loop-w-preserved
loop-w-preserved c = writes_next (mark_held c.args.self.now.marks) c.loop-w.w (c.loop-w.w + 1) c.loop-w.mark
    c.least-mark.result c.loop-w.invariant
    (c.least-mark.ensures.value ∙ ap (least c.loop-w.mark) c.write_mark.ensures) refl
