use Rattle.std.proofs.Common.{ap, subst}
use Rattle.grid_cycle.specs.Engines.{IsTallied, IsWithinCost, blocks_of, grid_of}
use Rattle.grid_cycle.proofs.grid.Grid.counts.Goals as goal

pub returns-clause-value : goal.returns-clause-value
returns-clause-value g c = ap (λ x. x.state.counts) c.self.view_is

pub returns-clause-within : goal.returns-clause-within
returns-clause-within g c = subst (λ x. IsWithinCost (blocks_of x) x.window.budget (grid_of x)) c.self.view_is
    c.keeps_cost.ensures.within

pub returns-clause-tallied : goal.returns-clause-tallied
returns-clause-tallied g c = subst (λ x. IsTallied x.window.budget (grid_of x)) c.self.view_is
    c.keeps_cost.ensures.tallied
