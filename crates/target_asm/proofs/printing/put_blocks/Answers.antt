use Rattle.std.proofs.Common.{ap, ◌∙◌, ◌++◌}
use Rattle.trips_isa.specs.Images.{chunks, chunk_of}
use Rattle.target_asm_spec.specs.inside.Chunks.{goal_in}
use Rattle.target_asm_spec.specs.Text.{block_text}
use Rattle.target_asm_spec.proofs.Numbered.{numbered_step}
use Rattle.target_asm.proofs.Blocks.{next_chunk}
use Rattle.target_asm.proofs.printing.put_blocks.Goals as goal

pub loop-k-preserved : goal.loop-k-preserved
loop-k-preserved c = (
  next_chunk c.args.blocks.now c.loop-k.k c.index-blocks-k.result c.loop-k.here _ c.loop-k-test.true
      c.loop-k.invariant.0 (c.chunks-here.ensures.value ∙ ap chunks c.index-blocks-k.is),
  numbered_step (λ k b. block_text (goal_in c.args.starts.now) (chunk_of c.args.blocks.now k) k b)
      c.loop-k.k c.args.blocks.now c.index-blocks-k.result c.args.out.now.items c.loop-k.out.items _
      c.loop-k-test.true c.loop-k.invariant.1
      (c.in_ok-put_block.ensures.ok ∙ ap (λ h. c.loop-k.out.items ++ block_text
      (goal_in c.args.starts.now) h c.loop-k.k c.index-blocks-k.result) c.loop-k.invariant.0
      ∙ ap (λ b. c.loop-k.out.items ++ block_text (goal_in c.args.starts.now)
      (chunk_of c.args.blocks.now c.loop-k.k) c.loop-k.k b) c.index-blocks-k.is),
)
