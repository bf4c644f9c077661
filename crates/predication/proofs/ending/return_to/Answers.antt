use Rattle.predication.proofs.ExitLemmas.{return_after}
use Rattle.predication.proofs.ending.return_to.Goals as goal

pub returns : goal.returns
returns c =
    return_after c.args.guard c.args.work.now c.operand.new.work c.push_branch.new.work c.args.names.now
    c.in_ok-left.left c.in_ok-left.ensures.adds c.in_ok-left.ensures.sources c.in_ok-push_branch.ensures
