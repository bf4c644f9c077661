use Rattle.std.proofs.Common.{arith, ap, ◌∙◌}
use Rattle.trips_explain_answers.specs.FileTold.{block_size}
use Rattle.trips_explain_answers.proofs.InstructionFacts.{block_more, all_blocks}
use Rattle.trips_explain_answers.proofs.file_telling.instructions_in.Goals as goal

pub loop-number-preserved : goal.loop-number-preserved
loop-number-preserved c =
    let few = c.block_size-sum.ensures.few in
    let before = c.loop-number.invariant.few in
    record {
      total = block_more c.args.image.now.blocks c.loop-number.number c.loop-number.sum c.block_size-sum.result
          c.at.result.now c.at.ensures.value
          (c.block_size-sum.ensures.value ∙ ap block_size c.block.ensures.value) c.loop-number.invariant.total;
      few = omega (arith, few, before);
    }

pub returns : goal.returns
returns c = all_blocks c.args.image.now.blocks c.loop-number.number c.loop-number.sum
    (omega (arith, c.count-number-end.ensures.value)) c.loop-number.invariant.total
