use Rattle.std.proofs.Common.{List, ℕ, subst}
use Rattle.trips_trace_answers.specs.declared.opening.Closed.{Closed}
use Rattle.trips_trace_answers.specs.inside.Opening.{IsClosed}
use Rattle.trips_trace_answers.proofs.Opened.{refused_told}
use Rattle.trips_trace_answers.proofs.answers.closed_answer.Goals as goal

pub returns-in-Refused : goal.returns-in-Refused
returns-in-Refused c bytes n = refused_told bytes c.in-Refused.said _
    (subst (λ (w : Closed). IsClosed bytes w) c.in-Refused.is n) c.refused.ensures
