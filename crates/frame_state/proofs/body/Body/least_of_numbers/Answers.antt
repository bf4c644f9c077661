use Rattle.std.proofs.Common.{◌+◌, ◌∙◌, ap, refl, arith}
use Rattle.trips_isa.specs.Marks.{least}
use Rattle.commit_flush_spec.specs.Marks.{mark_held}
use Rattle.frame_state.proofs.LeastFacts.{numbers_next, mask_is}
use Rattle.frame_state.proofs.body.Body.least_of_numbers.Goals as goal

pub loop-number-preserved : goal.loop-number-preserved
loop-number-preserved c = record {
  bound = omega arith;
  least = numbers_next (mark_held c.args.self.now.marks) c.args.mask c.loop-number.number
      (c.loop-number.number + 1) c.loop-number.mark c.least-mark.result c.loop-number.invariant.least
      (c.least-mark.ensures.value ∙ ap (least c.loop-number.mark) c.number_mark.ensures) refl;
}

pub returns : goal.returns
returns c = c.loop-number.invariant.least
    ∙ mask_is (mark_held c.args.self.now.marks) c.args.mask c.loop-number.number (omega arith)
