use Rattle.std.proofs.Common.{◌-◌, length, sym, ◌∙◌, subst, true≢false, arith}
use Rattle.grid_machine.specs.Answered.{HasCome}
use Rattle.grid_machine.specs.WholeRuns.{most_cycles}
use Rattle.grid_cycle.specs.Engines.{blocks_of, grid_of}
use Rattle.grid_cycle.proofs.EngineFacts.{never_cut, runs_keep}
use Rattle.grid_counted.proofs.NotedRuns.{is_run}
use Rattle.grid_logged.proofs.running.run.Goals as goal

pub run_out-ended-requires-clause-kept : goal.run_out-ended-requires-clause-kept
run_out-ended-requires-clause-kept g c = c.requires.engine.kept

pub unreachable-requires : goal.unreachable-requires
unreachable-requires g c =
    let x = c.args.grid.now in
    let y = c.run_out-ended.new.grid in
    let r = c.run_out-ended.ensures in
    let next = g.W.Weather.next in
    let follows = g.W.Weather.follows in
    let none = c.requires.none in
    never_cut next follows (blocks_of x) x.window.budget g.met.W.Weather.bounded (grid_of x) (grid_of y)
    (runs_keep next follows (blocks_of x) x.window.budget y.state.counts.cycles (grid_of x) (grid_of y)
    c.requires.engine
    (is_run next follows (blocks_of x) x.window.budget y.state.counts.cycles (grid_of x) (grid_of y) r.logged.notes
    r.logged.noted)
    (omega (arith, none)) (λ off. absurd (true≢false (sym c.requires.goes ∙ off))) r.few r.kept)
    (λ on. subst (λ o. HasCome (blocks_of x) x.window.window.state
    (x.window.budget - length x.window.window.state.trace) x.window.budget (most_cycles x.window.budget) o
    (grid_of y)) c.in-None.is r.comes)
    (λ off. absurd (true≢false (sym c.requires.goes ∙ off))) (sym c.in-None.is ∙ r.value)

pub returns-clause-value : goal.returns-clause-value
returns-clause-value g c = sym c.in-Some.is ∙ c.run_out-ended.ensures.value

pub returns-clause-comes : goal.returns-clause-comes
returns-clause-comes g c =
    let x = c.args.grid.now in
    subst (λ o. HasCome (blocks_of x) x.window.window.state
    (x.window.budget - length x.window.window.state.trace) x.window.budget (most_cycles x.window.budget) o
    (grid_of c.run_out-ended.new.grid)) c.in-Some.is c.run_out-ended.ensures.comes
