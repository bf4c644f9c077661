use Rattle.std.proofs.Common.{◌≡◌, ℕ, zero, suc, List, [], ◌∷◌, Option, Some, None, refl}
use Rattle.std.proofs.Common.{sym, ap, ◌∙◌, slice_get}
use Rattle.hyper_build.specs.inside.Ground.{Ground, entry_at}
use Rattle.hyper_build.proofs.ground.Site.entry.Goals as goal

abbrev or_zero : Option ℕ → ℕ
or_zero None = 0
or_zero (Some e) = e

entry_is : (es : List ℕ) (i : ℕ) → entry_at es i ≡ or_zero (slice_get es i)
entry_is [] i = refl
entry_is (e ∷ es) zero = refl
entry_is (e ∷ es) (suc i) = entry_is es i

pub returns-in-None : goal.returns-in-None
returns-in-None c =
    ap or_zero c.in-None.ensures.value ∙ sym (entry_is c.self.inside.entries.now c.args.function)
    ∙ ap (λ (g : Ground). entry_at g.entries c.args.function) c.self.view_is

pub returns-in-Some : goal.returns-in-Some
returns-in-Some c =
    ap or_zero c.in-Some.ensures.value ∙ sym (entry_is c.self.inside.entries.now c.args.function)
    ∙ ap (λ (g : Ground). entry_at g.entries c.args.function) c.self.view_is
