use Rattle.std.proofs.Common.{◌≤◌, length, arith}
use Rattle.c_tree.specs.Limits.{most_tokens}
use Rattle.c_library.proofs.Puts.{few_stay}
use Rattle.c_words.proofs.pass.limited.Goals as goal

pub returns-then-len-le-MOST_TOKENS-clause-ok : goal.returns-then-len-le-MOST_TOKENS-clause-ok
returns-then-len-le-MOST_TOKENS-clause-ok c =
    let few : length c.args.tokens.items ≤ most_tokens =
    omega (arith, c.if-len-le-MOST_TOKENS.true, c.len.ensures) in
    few_stay most_tokens c.args.tokens.items few
