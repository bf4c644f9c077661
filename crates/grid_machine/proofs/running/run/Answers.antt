use Rattle.std.proofs.Common.{◌-◌, ap, ◌∙◌}
use Rattle.commit_flush.specs.Seen.{Seen}
use Rattle.grid_parts.specs.Seen.{seen}
use Rattle.grid_machine.proofs.RunFacts.{run_counts}
use Rattle.grid_machine.proofs.Starts.{run_has_come}
use Rattle.grid_machine.proofs.running.run.Goals as goal

pub returns-clause-comes : goal.returns-clause-comes
returns-clause-comes g c = λ on.
    let x = c.args.grid.now in
    let y = c.run.new.grid in
    run_has_come g.W.Weather.next g.W.Weather.follows x.window.image.blocks c.budget-budget.result x.window.budget
    c.most_cycles-most.result (y.state.counts.cycles - x.state.counts.cycles) (seen x.window.window x.state)
    (seen y.window.window y.state)
    (c.budget-budget.ensures.value ∙ ap (λ (v : Seen). v.budget) c.window.ensures.value)
    c.most_cycles-most.ensures.value c.keeps_invariant.ensures.blocks c.keeps_invariant.ensures.window on
    c.requires.kept.counted.adds c.run.ensures.run c.run.ensures.full c.run.result c.run.ensures.value

pub returns-clause-commits : goal.returns-clause-commits
returns-clause-commits g c =
    let x = c.args.grid.now in
    let y = c.run.new.grid in
    run_counts x.window.image.blocks c.budget-budget.result g.W.Weather.next g.W.Weather.follows
    (y.state.counts.cycles - x.state.counts.cycles) (seen x.window.window x.state) (seen y.window.window y.state)
    c.run.ensures.run
