use Rattle.std.proofs.Common.{ap, sym, ◌∙◌, arith}
use Rattle.commit_flush.specs.inside.Kept.{is_in}
use Rattle.commit_flush.proofs.OrderFacts.{free_found, none_free, flies}
use Rattle.commit_flush.proofs.orders.free_number.Goals as goal

pub returns-then-not-is_in-clause-value : goal.returns-then-not-is_in-clause-value
returns-then-not-is_in-clause-value c = λ fs w.
    let n = c.loop-number.number in
    sym (free_found fs n (λ j l. flies j fs ∙ ap (is_in j) w ∙ c.loop-number.invariant j l) (omega arith)
    (flies n fs ∙ ap (is_in n) w ∙ sym c.is_in.ensures ∙ c.if-not-is_in.true))

pub returns-clause-value : goal.returns-clause-value
returns-clause-value c = λ fs w.
    sym (none_free fs (λ j l. flies j fs ∙ ap (is_in j) w ∙ c.loop-number.invariant j (omega arith)))
