use Rattle.std.proofs.Common.{◌≡◌, length, ap, ◌∙◌, arith}
use Rattle.trips_isa.specs.Machine.{State}
use Rattle.grid_logged.proofs.logged.Logged.cost.Goals as goal

pub cost-requires : goal.cost-requires
cost-requires c =
    let few = c.keeps_invariant.ensures.window.spent in
    let top = c.budget.type_inv in
    let is = c.budget.ensures.value in
    let same : length c.trace.result.now ≡ length c.window-window.result.now.window.state.trace =
    ap length (c.trace.ensures ∙ ap (λ (s : State). s.trace) c.arch.ensures.state) in
    omega (arith, few, top, is, same)
