use Rattle.c_names.proofs.Turned.{named_done, named_refused}
use Rattle.c_names.proofs.unit.without_names.Goals as goal

pub returns-in-Ok-clause-ok : goal.returns-in-Ok-clause-ok
returns-in-Ok-clause-ok c =
    named_done c.args.tokens.now c.new-out.result c.put_named.new.out c.into_vec.result.items
    c.new-out.ensures c.in-Ok.ensures c.into_vec.ensures

pub returns-in-Err-clause-err : goal.returns-in-Err-clause-err
returns-in-Err-clause-err c =
    named_refused c.args.tokens.now c.new-out.result c.in-Err.fault c.new-out.ensures c.in-Err.ensures
