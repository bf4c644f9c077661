use Rattle.c_tree.specs.Limits.{most_tokens}
use Rattle.c_units.proofs.SettledFacts.{few, many}
use Rattle.c_units.proofs.unit.limited.Goals as goal

pub returns-in-None-clause-ok : goal.returns-in-None-clause-ok
returns-in-None-clause-ok c =
    few most_tokens c.args.tokens c.into_vec.result.items c.in-None.ensures.value c.into_vec.ensures.value

pub returns-in-Some-clause-err : goal.returns-in-Some-clause-err
returns-in-Some-clause-err c = many most_tokens c.args.tokens c.in-Some.token.now c.in-Some.ensures.value
