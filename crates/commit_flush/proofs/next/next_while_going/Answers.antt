use Rattle.std.proofs.Common.{◌≡◌, ◌<◌, ap, ◌∙◌, length, arith}
use Rattle.trips_isa.specs.Machine.{State}
use Rattle.commit_flush.proofs.PickFacts.{unspent}
use Rattle.commit_flush.proofs.next.next_while_going.Goals as goal

pub returns-in-Some : goal.returns-in-Some
returns-in-Some c =
    let w = c.args.window.now in
    let made : length c.trace.result.now ≡ length w.window.state.trace =
    ap length c.trace.ensures ∙ ap (λ (s : State). length s.trace) c.arch.ensures.state in
    let all = c.budget.ensures.value in
    let below : length w.window.state.trace < w.budget = omega (arith, made, all) in
    c.next_of_frame.ensures ∙ unspent w.budget w.window below c.requires.goes_on
