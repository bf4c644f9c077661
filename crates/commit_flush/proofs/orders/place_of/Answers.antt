use Rattle.std.proofs.Common.{◌≡◌, ◌==◌, true, sym, arith, get_or}
use Rattle.std.proofs.lemmas.Bool.Decides.{nat_tests}
use Rattle.commit_flush.proofs.OrderFacts.{placed, not_placed}
use Rattle.commit_flush.proofs.orders.place_of.Goals as goal

pub returns-then-order-place-clause-value : goal.returns-then-order-place-clause-value
returns-then-order-place-clause-value c =
    let e : (get_or c.args.order.now c.loop-place.place 0 == c.args.number) ≡ true = grind (arith, nat_tests) in
    sym (placed c.args.number c.args.order.now c.loop-place.place c.loop-place.invariant (omega arith) e)

pub returns-clause-value : goal.returns-clause-value
returns-clause-value c =
    sym (not_placed c.args.number c.args.order.now (λ k l. c.loop-place.invariant k (omega arith)))
