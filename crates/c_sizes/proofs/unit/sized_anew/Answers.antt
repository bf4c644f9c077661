use Rattle.c_tree.specs.Limits.{most_tokens}
use Rattle.c_sizes.proofs.SizedTurns.{sized_done, sized_refused}
use Rattle.c_sizes.proofs.unit.sized_anew.Goals as goal

pub returns-in-Ok-clause-ok : goal.returns-in-Ok-clause-ok
returns-in-Ok-clause-ok c =
    sized_done most_tokens c.args.tokens.now c.new-out.result c.put_sized.new.out c.into_vec.result.items
    c.new-out.ensures c.in-Ok.ensures c.into_vec.ensures

pub returns-in-Err-clause-err : goal.returns-in-Err-clause-err
returns-in-Err-clause-err c =
    sized_refused most_tokens c.args.tokens.now c.new-out.result c.in-Err.fault c.new-out.ensures c.in-Err.ensures
