use Rattle.c_tree.specs.Limits.{most_tokens}
use Rattle.c_locals.proofs.PutBehind.{token_fails}
use Rattle.c_locals.proofs.values.put_first.Goals as goal

pub returns-clause-fails : goal.returns-clause-fails
returns-clause-fails c =
    token_fails most_tokens c.args.walk.now c.args.held.now.words c.args.held.now.body c.args.token.now
    c.args.behind.now c.args.out.now c.put_next.new.out c.put_next.result c.put_next.ensures
