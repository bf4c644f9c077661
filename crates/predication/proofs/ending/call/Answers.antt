use Rattle.predication.proofs.ExitLemmas.{call_after}
use Rattle.predication.proofs.ending.call.Goals as goal

pub returns-clause-work : goal.returns-clause-work
returns-clause-work c =
    call_after c.args.guard c.args.work.now c.push_address.new.work c.push_branch.new.work c.args.names.now c.args.to
    c.args.back c.new.result c.in_ok-at.ensures.adds c.new.ensures.value c.in_ok-push_branch.ensures
