use Rattle.std.proofs.Common.{◌≡◌, ℕ, ◌+◌, ◌*◌, ◌^◌, ◌<◌, ap, ap₂, ◌∙◌, subst, arith}
use Rattle.trips_isa.specs.declared.block.Image.{Image}
use Rattle.trips_grid_answers.specs.Report.{trap_cost}
use Rattle.trips_four_answers.proofs.Costs.{sum_small}
use Rattle.trips_four_answers.proofs.telling.program_cost.Goals as goal

pub overflow_add-result : goal.overflow_add-result
overflow_add-result c =
    let w = c.args.window.now in
    let few = sum_small w.image.blocks c.keeps_invariant.ensures.blocks w.window.state.trace c.args.ending w.budget
    c.committed_cost.result c.trap_cost.result c.keeps_invariant.ensures.window.spent
    (subst (λ b. b < 2 ^ 32) c.budget.ensures.value c.budget.type_inv) c.committed_cost.ensures
    (c.trap_cost.ensures ∙ ap (λ (i : Image). trap_cost i.blocks c.args.ending) c.image.ensures.value) in
    omega (arith, few)

pub returns-clause-value : goal.returns-clause-value
returns-clause-value c =
    ap₂ (λ (x y : ℕ). x + y) c.committed_cost.ensures
    (c.trap_cost.ensures ∙ ap (λ (i : Image). trap_cost i.blocks c.args.ending) c.image.ensures.value)

pub returns-clause-few : goal.returns-clause-few
returns-clause-few c =
    let w = c.args.window.now in
    sum_small w.image.blocks c.keeps_invariant.ensures.blocks w.window.state.trace c.args.ending w.budget
    c.committed_cost.result c.trap_cost.result c.keeps_invariant.ensures.window.spent
    (subst (λ b. b < 2 ^ 32) c.budget.ensures.value c.budget.type_inv) c.committed_cost.ensures
    (c.trap_cost.ensures ∙ ap (λ (i : Image). trap_cost i.blocks c.args.ending) c.image.ensures.value)
