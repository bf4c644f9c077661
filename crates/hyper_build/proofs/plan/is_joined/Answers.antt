use Rattle.std.proofs.Common.{◌≡◌, ℕ, zero, suc, Bool, false, List, [], ◌∷◌, Option, Some, None, refl}
use Rattle.std.proofs.Common.{sym, ap, ◌∙◌, slice_get}
use Rattle.hyper_build.specs.inside.Laws.{joins_by}
use Rattle.hyper_build.proofs.plan.is_joined.Goals as goal

abbrev or_not : Option Bool → Bool
or_not None = false
or_not (Some j) = j

join_is : (js : List Bool) (i : ℕ) → joins_by js i ≡ or_not (slice_get js i)
join_is [] i = refl
join_is (j ∷ js) zero = refl
join_is (j ∷ js) (suc i) = join_is js i

pub returns-in-None : goal.returns-in-None
returns-in-None c =
    ap or_not c.in-None.ensures.value ∙ sym (join_is c.args.plan.now.joins c.args.place)

pub returns-in-Some : goal.returns-in-Some
returns-in-Some c =
    ap or_not c.in-Some.ensures.value ∙ sym (join_is c.args.plan.now.joins c.args.place)
