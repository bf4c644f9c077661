use Rattle.c_tree.specs.Limits.{most_tokens}
use Rattle.c_locals.specs.Values as values
use Rattle.c_locals.proofs.PutBehind.{done, all_refused}
use Rattle.c_locals.proofs.values.with_values.Goals as goal

pub returns-in-Ok-clause-ok : goal.returns-in-Ok-clause-ok
returns-in-Ok-clause-ok c =
    done most_tokens (values.with_values c.args.tokens.now) c.new-out.result c.put_unit.new.out
    c.into_vec.result.items c.new-out.ensures c.in-Ok.ensures c.into_vec.ensures

pub returns-in-Err-clause-err : goal.returns-in-Err-clause-err
returns-in-Err-clause-err c =
    all_refused most_tokens (values.with_values c.args.tokens.now) c.new-out.result c.in-Err.fault
    c.new-out.ensures c.in-Err.ensures
