use Rattle.c_tree.specs.Limits.{most_tokens}
use Rattle.c_library.proofs.StringTurns.{strings_done, strings_refused}
use Rattle.c_library.proofs.strings.with_strings.Goals as goal

pub returns-in-Ok-clause-ok : goal.returns-in-Ok-clause-ok
returns-in-Ok-clause-ok c =
    strings_done most_tokens c.args.tokens.now c.new-out.result c.put_strings.new.out c.into_vec.result.items
    c.new-out.ensures c.in-Ok.ensures c.into_vec.ensures

pub returns-in-Err-clause-err : goal.returns-in-Err-clause-err
returns-in-Err-clause-err c =
    strings_refused most_tokens c.args.tokens.now c.new-out.result c.in-Err.fault c.new-out.ensures c.in-Err.ensures
