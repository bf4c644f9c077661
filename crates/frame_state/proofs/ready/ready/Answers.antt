use Rattle.std.proofs.Common.{◌&&◌, ap₂, ◌∙◌, bit_and}
use Rattle.frame_state.proofs.BitFacts.{has_and}
use Rattle.frame_state.proofs.ready.ready.Goals as goal

pub returns : goal.returns
returns c = record {
  value = λ s h. has_and (bit_and c.args.waiting c.args.left) (bit_and c.args.right c.args.predicate) s
      ∙ ap₂ (λ y z. y && z) (has_and c.args.waiting c.args.left s) (has_and c.args.right c.args.predicate s);
}
