-- The answer that tells how four have ended, from their endings one by one.
use Rattle.std.proofs.Common.{◌≡◌, ℕ, Bool, List, [], ◌∷◌, ◌++◌, length, get_or, refl, sym, ap, ap₂, ◌∙◌, arith}
use Rattle.trips_isa.specs.declared.run.Ending.{Ending}
use Rattle.trips_isa.specs.declared.run.Ending.TheVariants as ending
use Rattle.operand_net.specs.declared.weather.PcgWeather.{PcgWeather}
use Rattle.smt_mode.specs.Fours.{Fours}
use Rattle.trips_requests.specs.declared.status.Status.{Status}
use Rattle.trips_four_answers.specs.Report.{counts_text}
use Rattle.trips_four_answers.specs.inside.Ended.{AreTold, costs_by, status_by, texts_by}

-- the first four of some endings
abbrev one_by_one : List Ending → List Ending
one_by_one es = get_or es 0 ending.Ended ∷ get_or es 1 ending.Ended ∷ get_or es 2 ending.Ended
    ∷ get_or es 3 ending.Ended ∷ []

all_four : (es : List Ending) → length es ≡ 4 → one_by_one es ≡ es
all_four (a ∷ b ∷ c ∷ d ∷ []) e = refl
all_four [] e = absurd (omega (arith, e))
all_four (a ∷ []) e = absurd (omega (arith, e))
all_four (a ∷ b ∷ []) e = absurd (omega (arith, e))
all_four (a ∷ b ∷ c ∷ []) e = absurd (omega (arith, e))
all_four (a ∷ b ∷ c ∷ d ∷ x ∷ xs) e = absurd (omega (arith, e))

-- what is told of them one by one is told of all
pub are_told : (v : Fours PcgWeather) (cycles : Bool) (es : List Ending) (s : Status) (text report : List ℕ)
    (made cost : ℕ) → length es ≡ 4 → s ≡ status_by v 0 (one_by_one es) → text ≡ texts_by v 0 (one_by_one es)
    → made ≡ v.four.cycles → cost ≡ costs_by v 0 (one_by_one es) → report ≡ text ++ counts_text cycles made cost
    → AreTold v cycles es s report
are_told v cycles es s text report made cost four status_is text_is made_is cost_is is =
    let all = all_four es four in (
      four,
      (
        status_is ∙ ap (status_by v 0) all,
        is ∙ ap₂ (λ (x y : List ℕ). x ++ y) (text_is ∙ ap (texts_by v 0) all)
            (ap₂ (counts_text cycles) made_is (cost_is ∙ ap (costs_by v 0) all)),
      ),
    )
