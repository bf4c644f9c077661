use Rattle.std.proofs.Common.{◌≡◌, ℕ, zero, suc, Bool, true, List, [], ◌∷◌, Option, Some, None, refl}
use Rattle.std.proofs.Common.{sym, ap, ◌∙◌, slice_get}
use Rattle.hyper_build.specs.inside.Laws.{cuts_by}
use Rattle.hyper_build.proofs.plan.is_cut.Goals as goal

abbrev or_cut : Option Bool → Bool
or_cut None = true
or_cut (Some c) = c

cut_is : (cs : List Bool) (i : ℕ) → cuts_by cs i ≡ or_cut (slice_get cs i)
cut_is [] i = refl
cut_is (c ∷ cs) zero = refl
cut_is (c ∷ cs) (suc i) = cut_is cs i

pub returns-in-None : goal.returns-in-None
returns-in-None c =
    ap or_cut c.in-None.ensures.value ∙ sym (cut_is c.args.plan.now.cuts c.args.place)

pub returns-in-Some : goal.returns-in-Some
returns-in-Some c =
    ap or_cut c.in-Some.ensures.value ∙ sym (cut_is c.args.plan.now.cuts c.args.place)
