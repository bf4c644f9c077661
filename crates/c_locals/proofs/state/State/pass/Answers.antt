use Rattle.c_locals.proofs.StateBounds.{if_bounded}
use Rattle.c_locals.proofs.state.State.pass.Goals as goal

pub returns-clause-few : goal.returns-clause-few
returns-clause-few c = if_bounded c.args.token.now c.args.self c.pass_token.result c.pass_token.ensures
