use Rattle.std.proofs.lemmas.Result.{IfOk-weaker}
use Rattle.flow_fold.specs.inside.Replaces.{Replaces}
use Rattle.flow_fold.proofs.Following.{stands_on}
use Rattle.flow_fold.proofs.sharing.shared_at.Goals as goal

pub returns-in-Some : goal.returns-in-Some
returns-in-Some c =
    IfOk-weaker c.joined_at.result (λ g. Replaces c.in_ok-direct.direct g) (λ g. Replaces c.args.block g)
    (λ g r. stands_on c.args.block c.in_ok-direct.direct g c.in_ok-direct.ensures r) c.joined_at.ensures
