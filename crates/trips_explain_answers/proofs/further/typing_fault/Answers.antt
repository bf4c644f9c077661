use Rattle.std.proofs.Common.{ℕ, Option, ap, sym, ◌∙◌}
use Rattle.trips_explain_answers.specs.Further.{is_behind}
use Rattle.trips_explain_answers.proofs.FurtherFacts.{typing_next}
use Rattle.trips_explain_answers.proofs.further.typing_fault.Goals as goal

pub returns-else-is_behind : goal.returns-else-is_behind
returns-else-is_behind c = λ next refused. typing_next next c.args.offset c.args.fault refused
    (ap (λ (p : Option ℕ). is_behind c.args.offset p) (sym c.place_of.ensures) ∙ sym c.is_behind.ensures
    ∙ c.if-is_behind.false)
