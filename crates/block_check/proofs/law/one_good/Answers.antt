use Rattle.block_check.proofs.OneGood.{one_good}
use Rattle.block_check.proofs.law.one_good.Goals as goal

pub returns : goal.returns
returns c = one_good
