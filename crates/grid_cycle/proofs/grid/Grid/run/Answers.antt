use Rattle.std.proofs.Common.{◌≡◌, ◌-◌, ◌≤◌, true, false, length, ap, ◌∙◌, subst}
use Rattle.grid_machine.specs.Answered.{ComesTo}
use Rattle.grid_machine.specs.Endings.{ended, is_going}
use Rattle.grid_machine.specs.Tallies.{CountsCommits}
use Rattle.grid_machine.specs.WholeRuns.{IsRun, most_cycles}
use Rattle.grid_cycle.specs.Engines.{blocks_of, grid_of}
use Rattle.grid_cycle.proofs.grid.Grid.run.Goals as goal

pub returns-clause-run : goal.returns-clause-run
returns-clause-run g c = subst (λ x. IsRun g.W.Weather.next g.W.Weather.follows (blocks_of x) x.window.budget
    (c.run-ending.new.parts.state.counts.cycles - x.state.counts.cycles) (grid_of x) (grid_of c.run-ending.new.parts))
    c.self.view_is c.run-ending.ensures.run

pub returns-clause-value : goal.returns-clause-value
returns-clause-value g c = c.run-ending.ensures.value
    ∙ ap (λ x. ended x.window.budget c.run-ending.new.parts.window.window) c.self.view_is

pub returns-clause-comes : goal.returns-clause-comes
returns-clause-comes g c = subst (λ x. is_going x.window.budget x.window.window ≡ true
    → ComesTo (blocks_of x) x.window.window.state (x.window.budget - length x.window.window.state.trace)
    c.run-ending.result (grid_of c.run-ending.new.parts)) c.self.view_is c.run-ending.ensures.comes

pub returns-clause-same : goal.returns-clause-same
returns-clause-same g c = subst (λ x. is_going x.window.budget x.window.window ≡ false
    → grid_of c.run-ending.new.parts ≡ grid_of x) c.self.view_is c.run-ending.ensures.same

pub returns-clause-commits : goal.returns-clause-commits
returns-clause-commits g c = subst (λ x. CountsCommits (grid_of x) (grid_of c.run-ending.new.parts)) c.self.view_is
    c.run-ending.ensures.commits

pub returns-clause-few : goal.returns-clause-few
returns-clause-few g c = subst (λ x. c.run-ending.new.parts.state.counts.cycles ≤ most_cycles x.window.budget)
    c.self.view_is c.run-ending.ensures.few

pub returns-clause-image : goal.returns-clause-image
returns-clause-image g c = c.run-ending.ensures.image ∙ ap (λ x. blocks_of x) c.self.view_is

pub returns-clause-budget : goal.returns-clause-budget
returns-clause-budget g c = c.run-ending.ensures.budget ∙ ap (λ x. x.window.budget) c.self.view_is
