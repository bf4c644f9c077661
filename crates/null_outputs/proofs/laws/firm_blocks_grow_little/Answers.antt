use Rattle.null_outputs.specs.inside.Surely.{sure_by}
use Rattle.null_outputs.specs.inside.Wants.{want_by}
use Rattle.null_outputs.proofs.Sizes.{grows_little}
use Rattle.null_outputs.proofs.laws.firm_blocks_grow_little.Goals as goal

pub returns : goal.returns
returns c = λ b firm. grows_little (sure_by b) (want_by b) b firm
