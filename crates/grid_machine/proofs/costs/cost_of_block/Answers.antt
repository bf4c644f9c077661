use Rattle.std.proofs.Common.{ap, ◌∙◌}
use Rattle.grid_cycle_spec.specs.Costs.{instructions}
use Rattle.grid_machine.proofs.CostFacts.{cost_is}
use Rattle.grid_machine.proofs.costs.cost_of_block.Goals as goal

pub returns-clause-value : goal.returns-clause-value
returns-clause-value c =
    cost_is c.args.block.now c.instructions.result c.len.result
    (c.instructions.ensures.value ∙ ap instructions c.as_slice.ensures.value) c.len.ensures.value
