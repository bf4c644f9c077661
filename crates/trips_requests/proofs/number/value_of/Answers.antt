use Rattle.std.proofs.Common.{ap, ◌+◌, ◌*◌, ℕ}
use Rattle.trips_requests.proofs.Digits.{too_large}
use Rattle.trips_requests.proofs.number.value_of.Goals as goal

pub returns-then-value-limit-clause-value : goal.returns-then-value-limit-clause-value
returns-then-value-limit-clause-value c =
    too_large c.args.digits.now c.loop-digit.digit-index c.loop-digit.value _ c.args.most
    c.loop-digit-test.true c.loop-digit.invariant.so_far
    (ap (λ (d : ℕ). c.loop-digit.value * 10 + d) c.saturating_sub.ensures) c.if-value-limit.true
