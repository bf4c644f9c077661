use Rattle.std.proofs.Common.{ap, ◌+◌, ◌*◌, ℕ}
use Rattle.trips_requests.proofs.Digits.{too_large}
use Rattle.trips_json.proofs.numbers.value_of.Goals as goal

pub returns-then-value-limit : goal.returns-then-value-limit
returns-then-value-limit c =
    too_large c.args.digits.now c.loop-digit.digit-index c.loop-digit.value _ c.args.most
    c.loop-digit-test.true c.loop-digit.invariant.so_far
    (ap (λ (d : ℕ). c.loop-digit.value * 10 + d) c.saturating_sub.ensures) c.if-value-limit.true
