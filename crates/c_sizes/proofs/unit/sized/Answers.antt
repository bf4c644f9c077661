use Rattle.std.proofs.Common.{◌≤◌, length, arith}
use Rattle.c_tree.specs.Limits.{most_tokens}
use Rattle.c_sizes.proofs.SizedFacts.{sized_early}
use Rattle.c_sizes.proofs.unit.sized.Goals as goal

pub returns-then-has_no_sizeof-clause-ok : goal.returns-then-has_no_sizeof-clause-ok
returns-then-has_no_sizeof-clause-ok c =
    let few : length c.args.tokens.items ≤ most_tokens =
    omega (arith, c.if-len-le-MOST_TOKENS.true, c.len.ensures) in
    sized_early most_tokens c.args.tokens.items c.deref.result.now c.has_no_sizeof.result c.deref.ensures.value
    c.has_no_sizeof.ensures c.if-has_no_sizeof.true few
