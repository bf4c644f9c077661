use Rattle.std.proofs.Common.{◌≡◌, map, take}
use Rattle.ir_forms.specs.inside.HyperViews.{block_of, blocks_of}
use Rattle.loop_unroll.specs.inside.Unrolled.{unrolled}
use Rattle.loop_unroll.proofs.unrolling.unroll.Given as goal

-- those before are unrolled
abbrev pub invariant-loop-block : goal.invariant-loop-block
invariant-loop-block l = record {
  number : l.number ≡ l.block-index;
  done : map block_of l.blocks ≡ take l.block-index (unrolled l.times (blocks_of l.fn.program));
}
