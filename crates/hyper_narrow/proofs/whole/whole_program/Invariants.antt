use Rattle.std.proofs.Common.{◌≡◌, ◌++◌, map, length}
use Rattle.ir_forms.specs.inside.HyperViews.{block_of}
use Rattle.hyper_narrow.specs.inside.NarrowedCode.{whole}
use Rattle.hyper_narrow.specs.inside.NarrowedViews.{narrowed_of}
use Rattle.hyper_narrow.proofs.whole.whole_program.Given as goal

abbrev pub decreases-loop-block : goal.decreases-loop-block
decreases-loop-block l = length l.rest

abbrev pub invariant-loop-block : goal.invariant-loop-block
invariant-loop-block l =
    map narrowed_of l.narrowed ++ map whole (map block_of l.rest) ≡ map whole (map block_of l.fn.program.blocks)
