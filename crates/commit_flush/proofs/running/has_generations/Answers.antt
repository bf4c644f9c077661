use Rattle.std.proofs.Common.{◌≡◌, ◌^◌, ◌<◌, subst, arith}
use Rattle.commit_flush.proofs.RoomFacts.{has_generations}
use Rattle.commit_flush.proofs.running.has_generations.Goals as goal

pub returns : goal.returns
returns c =
    let is : c.budget-budget.result ≡ c.args.window.now.budget = c.budget-budget.ensures.value in
    has_generations c.args.window.now.image.blocks c.args.window.now.budget c.args.window.now.window
    c.keeps_invariant.ensures.window (subst (λ b. b < 2 ^ 32) is (omega arith)) c.requires
