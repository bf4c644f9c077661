use Rattle.std.proofs.Common.{◌≡◌, ℕ, zero, suc, List, [], ◌∷◌, Option, Some, None, refl}
use Rattle.std.proofs.Common.{sym, ap, ◌∙◌, slice_get}
use Rattle.hyper_build.specs.inside.Laws.{groups_by}
use Rattle.hyper_build.specs.inside.Ground.{Ground}
use Rattle.hyper_build.proofs.ground.Site.groups_of.Goals as goal

abbrev or_none : Option (List (List ℕ)) → List (List ℕ)
or_none None = []
or_none (Some gs) = gs

groups_is : (gs : List (List (List ℕ))) (i : ℕ) → groups_by gs i ≡ or_none (slice_get gs i)
groups_is [] i = refl
groups_is (g ∷ gs) zero = refl
groups_is (g ∷ gs) (suc i) = groups_is gs i

pub returns-in-None : goal.returns-in-None
returns-in-None c =
    ap or_none c.in-None.ensures.value ∙ sym (groups_is c.self.inside.groups.now c.args.call)
    ∙ ap (λ (g : Ground). groups_by g.groups c.args.call) c.self.view_is

pub returns-in-Some : goal.returns-in-Some
returns-in-Some c =
    c.as_slice.ensures.value ∙ ap or_none c.in-Some.ensures.value
    ∙ sym (groups_is c.self.inside.groups.now c.args.call)
    ∙ ap (λ (g : Ground). groups_by g.groups c.args.call) c.self.view_is
