use Rattle.std.proofs.Common.{arith, ap, ◌∙◌, ◌++◌}
use Rattle.target_asm_spec.specs.Text.{head_lines}
use Rattle.target_asm.proofs.Blocks.{few_blocks, printed_by}
use Rattle.target_asm.proofs.printing.print.Goals as goal

pub starts-requires-clause-few : goal.starts-requires-clause-few
starts-requires-clause-few c = rw c.as_slice.ensures.value
    (omega (arith, few_blocks c.args.image.now.blocks, c.requires.total))

pub returns : goal.returns
returns c = record {
  ok = printed_by c.args.image.now c.as_slice.result.now c.as_slice-3.result.now
      c.as_slice-2.result.now _ _ _ _ c.requires c.as_slice.ensures.value c.as_slice-2.ensures.value
      c.as_slice-3.ensures.value
      (c.deref.ensures.value ∙ c.in_ok-starts.ensures.ok)
      (c.in_ok-put_head.ensures.ok ∙ ap
      (λ t. t ++ head_lines c.len.result) c.new-out.ensures.items
      ∙ ap head_lines c.len.ensures.value) c.in_ok-put_data.ensures.ok
      c.in_ok-put_blocks.ensures.ok;
}
