use Rattle.c_tree.specs.Limits.{most_tokens}
use Rattle.c_names.proofs.Kept.{unit_stays}
use Rattle.c_names.proofs.unit.is_own.Goals as goal

pub returns-then-tokens-le-MOST_TOKENS : goal.returns-then-tokens-le-MOST_TOKENS
returns-then-tokens-le-MOST_TOKENS c h =
    unit_stays most_tokens c.args.tokens.now (c.is_plain.ensures h) c.if-tokens-le-MOST_TOKENS.true
