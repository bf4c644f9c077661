use Rattle.std.proofs.Common.{◌∙◌, ap, arith}
use Rattle.trips_isa.specs.Images.{chunks}
use Rattle.target_asm.proofs.Beginnings.{begins_more, sum_more}
use Rattle.target_asm.proofs.tables.chunk_list.Goals as goal

pub loop-k-preserved : goal.loop-k-preserved
loop-k-preserved c = (
  begins_more c.args.blocks.now c.loop-k.k c.loop-k.here c.index-blocks-k.result
      c.loop-k.list.items _
      c.loop-k-test.true c.loop-k.invariant.0 c.loop-k.invariant.1 c.in_ok-push.ensures.items,
  sum_more c.args.blocks.now c.loop-k.k c.loop-k.here _ c.index-blocks-k.result c.loop-k-test.true
      c.loop-k.invariant.1
      (c.chunks-here.ensures.value ∙ ap chunks c.index-blocks-k.is),
  omega (arith, c.loop-k.invariant.2, c.chunks-here.ensures.most),
)
