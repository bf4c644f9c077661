use Rattle.null_outputs.specs.inside.Surely.{sure_by}
use Rattle.null_outputs.specs.inside.Wants.{want_by}
use Rattle.null_outputs.proofs.Sizes.{nodes_counted}
use Rattle.null_outputs.proofs.laws.nodes_are_counted.Goals as goal

pub returns : goal.returns
returns c = λ b. nodes_counted (sure_by b) (want_by b) b
