use Rattle.std.proofs.Common.{◌∙◌, arith}
use Rattle.block_check.specs.inside.Pass.{tok_at}
use Rattle.block_check.proofs.Counting.{all_waiting}
use Rattle.block_check.proofs.order.count_with.Goals as goal

pub returns : goal.returns
returns c ranks h q lt = c.count_tokens.ensures q lt
    ∙ all_waiting c.args.nodes.now ranks (tok_at c.loop-tok.toks) q h (λ k l. c.loop-tok.invariant
    k (omega arith))
