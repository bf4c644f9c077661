use Rattle.std.proofs.Common.{arith}
use Rattle.lsq_order.proofs.PassFacts.{none_passed}
use Rattle.lsq_order.proofs.sought.Sought.pass.Goals as goal

pub returns-then-word-eq0-clause-taken : goal.returns-then-word-eq0-clause-taken
returns-then-word-eq0-clause-taken c = λ mem. none_passed c.args.self c.args.stores.now mem c.word.result c.args.below
    c.get-all.ensures.size c.word.ensures.value (omega arith)
