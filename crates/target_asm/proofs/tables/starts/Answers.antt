use Rattle.std.proofs.Common.{[], ◌∙◌, ap, ◌++◌}
use Rattle.trips_isa.specs.Images.{chunks}
use Rattle.target_asm_spec.specs.inside.Chunks.{start_row}
use Rattle.target_asm_spec.proofs.Numbered.{numbered_step}
use Rattle.target_asm.proofs.tables.starts.Goals as goal

pub loop-k-preserved : goal.loop-k-preserved
loop-k-preserved c =
    numbered_step (λ i b. start_row i (chunks b)) c.loop-k.k c.args.blocks.now
    c.index-blocks-k.result [] c.loop-k.starts.items _ c.loop-k-test.true c.loop-k.invariant
    (c.in_ok-push_start.ensures.ok ∙ ap (λ n. c.loop-k.starts.items ++ start_row c.loop-k.k n)
    (c.chunks.ensures.value ∙ ap chunks c.index-blocks-k.is))
