use Rattle.std.proofs.Common.{get_or, arith, ◌+◌}
use Rattle.c_compile_layout.proofs.LabelLoop.{turned}
use Rattle.c_compile_layout.proofs.linking.link.Goals as goal

pub loop-k-preserved : goal.loop-k-preserved
loop-k-preserved c =
    turned (λ x. get_or c.args.starts.now x c.args.end) c.loop-k.k (c.loop-k.k + 1) c.args.blocks.now
    c.loop-k.blocks c.index-blocks-k.result c.resolve.new.block (omega arith) (omega arith)
    c.loop-k.invariant c.resolve.ensures.value
