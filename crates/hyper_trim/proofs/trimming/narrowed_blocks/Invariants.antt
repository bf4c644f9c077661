use Rattle.std.proofs.Common.{◌≡◌, ◌++◌, map, length}
use Rattle.ir_forms.specs.inside.HyperViews.{block_of}
use Rattle.hyper_narrow.specs.inside.NarrowedViews.{narrowed_of}
use Rattle.hyper_trim.specs.inside.Alive as spec
use Rattle.hyper_trim.proofs.trimming.narrowed_blocks.Given as goal

abbrev pub invariant-loop-block : goal.invariant-loop-block
invariant-loop-block l =
    map narrowed_of l.all ++ map (spec.narrow_block l.table l.ret) (map block_of l.rest)
    ≡ map (spec.narrow_block l.table l.ret) (map block_of l.fn.blocks)

abbrev pub decreases-loop-block : goal.decreases-loop-block
decreases-loop-block l = length l.rest
