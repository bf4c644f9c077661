use Rattle.c_sizes.proofs.OperatorFacts.{end_within}
use Rattle.c_sizes.proofs.operator.lowest.Goals as goal

pub returns-clause-within : goal.returns-clause-within
returns-clause-within c =
    end_within c.args.tokens.now c.loop-rest.rest.now c.loop-rest.count c.loop-rest.depth c.loop-rest.behind
    c.loop-rest.found c.loop-rest.invariant.value c.in_default.len_below
