use Rattle.std.proofs.Common.{◌++◌, ℕ, Option, List, Some, take, set, ap, ◌∙◌, arith}
use Rattle.c_meaning.proofs.InPlace.{set_in}
use Rattle.c_meaning.proofs.scalars.Scalars.set_first.Goals as goal

pub returns-then-at-self-clause-after : goal.returns-then-at-self-clause-after
returns-then-at-self-clause-after c =
    λ _. ap (λ (xs : List (Option ℕ)). take c.self.inside.count xs ++ c.self.inside.more.items) c.put.ensures.after
    ∙ (set_in c.self.inside.few c.self.inside.more.items c.self.inside.count c.args.at (Some c.args.word)
    (omega arith) (omega (arith, c.self.invariant.0, c.self.invariant.1))
    ∙ ap (λ (xs : List (Option ℕ)). set xs c.args.at (Some c.args.word)) c.self.view_is)
