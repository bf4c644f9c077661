use Rattle.std.proofs.Common.{◌≡◌, ◌++◌, map, length}
use Rattle.ir_forms.specs.inside.HyperViews.{block_of}
use Rattle.hyper_trim.specs.inside.Forward as forwarding
use Rattle.hyper_trim.proofs.trimming.forwarded_blocks.Given as goal

abbrev pub invariant-loop-block : goal.invariant-loop-block
invariant-loop-block l =
    map block_of l.all ++ map forwarding.forward_block (map block_of l.rest)
    ≡ map forwarding.forward_block (map block_of l.fn.blocks)

abbrev pub decreases-loop-block : goal.decreases-loop-block
decreases-loop-block l = length l.rest
