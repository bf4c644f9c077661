use Rattle.std.proofs.Common.{◌≡◌, ◌+◌, true, false, ap, ◌∙◌, subst}
use Rattle.grid_machine.specs.Endings.{ended, is_going}
use Rattle.grid_machine.specs.WholeRuns.{going_cycles}
use Rattle.grid_cycle.specs.Engines.{IsCycle, blocks_of, grid_of}
use Rattle.grid_cycle.proofs.grid.Grid.cycle.Goals as goal

pub returns-clause-eager : goal.returns-clause-eager
returns-clause-eager g c = subst (λ x. is_going x.window.budget x.window.window ≡ true
    → IsCycle g.W.Weather.next g.W.Weather.follows (blocks_of x) x.window.budget (grid_of x)
    (grid_of c.cycle-ending.new.parts)) c.self.view_is c.cycle-ending.ensures.eager

pub returns-clause-value : goal.returns-clause-value
returns-clause-value g c = c.cycle-ending.ensures.value
    ∙ ap (λ x. ended x.window.budget c.cycle-ending.new.parts.window.window) c.self.view_is

pub returns-clause-same : goal.returns-clause-same
returns-clause-same g c = subst (λ x. is_going x.window.budget x.window.window ≡ false
    → grid_of c.cycle-ending.new.parts ≡ grid_of x) c.self.view_is c.cycle-ending.ensures.same

pub returns-clause-cycles : goal.returns-clause-cycles
returns-clause-cycles g c = c.cycle-ending.ensures.cycles
    ∙ ap (λ x. x.state.counts.cycles + going_cycles x.window.budget x.window.window) c.self.view_is

pub returns-clause-image : goal.returns-clause-image
returns-clause-image g c = c.cycle-ending.ensures.image ∙ ap (λ x. blocks_of x) c.self.view_is

pub returns-clause-budget : goal.returns-clause-budget
returns-clause-budget g c = c.cycle-ending.ensures.budget ∙ ap (λ x. x.window.budget) c.self.view_is
