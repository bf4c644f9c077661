use Rattle.std.proofs.Common.{arith}
use Rattle.std.proofs.lemmas.Grind.{common_steps}
use Rattle.block_check.proofs.Making.{turn_fits, turn_count, turn_whole, turn_each, turn_starts}
use Rattle.block_check.proofs.Making.{turn_next, turn_bad}
use Rattle.block_check.proofs.checked_image.CheckedImage.make.Goals as goal

pub add-requires-clause-fits : goal.add-requires-clause-fits
add-requires-clause-fits c = turn_fits c.args.image _ _ _ _ c.requires.fits
    c.loop-block.invariant.whole c.in-Some.ensures.value

pub add-requires-clause-count : goal.add-requires-clause-count
add-requires-clause-count c = turn_count c.args.image _ _ _ _ c.requires.fits
    c.loop-block.invariant.whole c.in-Some.ensures.value

pub returns-in_err-next-clause-err : goal.returns-in_err-next-clause-err
returns-in_err-next-clause-err c =
    let bad = turn_bad c.args.image _ _ _ c.in-Some.block _ c.loop-block.invariant.whole
    c.in-Some.ensures.value c.loop-block.invariant.each c.in_err-next.ensures.bad in
    grind (arith, common_steps, bad)

pub loop-block-preserved : goal.loop-block-preserved
loop-block-preserved c = record {
  whole = turn_whole c.args.image _ _ _ _ _ c.loop-block.invariant.whole c.in-Some.ensures.value
      c.in_ok-next.ensures.blocks;
  each = turn_each _ _ _ c.loop-block.invariant.each c.in_ok-next.ensures.checked
      c.in_ok-next.ensures.blocks;
  starts_are = turn_starts _ _ _ _ _ _ c.loop-block.invariant.starts_are
      c.loop-block.invariant.next_is c.in_ok-next.ensures.blocks c.in_ok-next.ensures.starts;
  next_is = turn_next _ _ _ _ _ c.loop-block.invariant.next_is c.in_ok-next.ensures.blocks
      c.in_ok-next.ensures.next;
}
