use Rattle.std.proofs.Common.{◌≡◌, ◌≤◌, sym, ap, ◌∙◌, refl, subst, arith}
use Rattle.commit_flush.specs.Seen.{Seen}
use Rattle.grid_machine.specs.Endings.{ended, is_going}
use Rattle.grid_machine.specs.WholeRuns.{IsRun, at_end, most_cycles}
use Rattle.grid_machine.specs.inside.WholeRuns.{IsKept}
use Rattle.grid_machine.proofs.CallFacts.{on_before}
use Rattle.grid_machine.proofs.RunFacts.{run_counts}
use Rattle.grid_machine.proofs.Starts.{run_has_come}
use Rattle.grid_cycle.specs.Engines.{blocks_of, grid_of}
use Rattle.grid_counted.specs.Runs.{end_notes}
use Rattle.grid_counted.proofs.NotedRuns.{is_run}
use Rattle.grid_log.specs.Events.{entries_of}
use Rattle.grid_log.specs.Logs.{Keeps}
use Rattle.grid_logged.specs.Runs.{entries_between}
use Rattle.grid_logged.proofs.Going.{logged_run}
use Rattle.grid_logged.proofs.running.run_out.Goals as goal

pub cycles-requires-clause-counted : goal.cycles-requires-clause-counted
cycles-requires-clause-counted g c = c.requires.kept.counted

pub cycles-requires-clause-cycles : goal.cycles-requires-clause-cycles
cycles-requires-clause-cycles g c =
    let none = c.requires.none in
    let bound = c.most_cycles-most.ensures.bound in
    omega (arith, none, bound)

pub finish-requires-clause-counted : goal.finish-requires-clause-counted
finish-requires-clause-counted g c = c.cycles.ensures.counted

pub finish-requires-clause-cycles : goal.finish-requires-clause-cycles
finish-requires-clause-cycles g c =
    let none = c.requires.none in
    let bound = c.most_cycles-most.ensures.bound in
    let made = c.cycles.ensures.cycles in
    let few = c.cycles.ensures.few in
    omega (arith, none, bound, made, few)

pub returns-clause-logged : goal.returns-clause-logged
returns-clause-logged g c =
    let v = c.args.grid.now in
    let m = c.cycles.new.grid in
    let y = c.finish.new.grid in
    let none = c.requires.none in
    let made = c.cycles.ensures.cycles in
    let same = c.finish.ensures.cycles in
    logged_run g.W.Weather.next g.W.Weather.follows (blocks_of v) v.window.budget c.args.first c.args.last
    c.cycles.result y.state.counts.cycles (grid_of v) (grid_of m) (grid_of y) c.args.log.now c.cycles.new.log
    c.finish.new.log c.requires.none (omega (arith, none, made)) (omega (arith, none, made, same))
    c.cycles.ensures.run (c.finish.ensures.change ∙ ap (λ b. at_end b (grid_of m)) c.cycles.ensures.budget)
    (subst (λ b. Keeps c.cycles.new.log (entries_between c.args.first c.args.last
    (entries_of m.state.counts.cycles (end_notes b (grid_of m)))) c.finish.new.log) c.cycles.ensures.budget
    c.finish.ensures.keeps)

pub returns-clause-value : goal.returns-clause-value
returns-clause-value g c =
    c.finish.ensures.value ∙ ap (λ b. ended b c.finish.new.grid.window.window) c.cycles.ensures.budget

pub returns-clause-comes : goal.returns-clause-comes
returns-clause-comes g c =
    let v = c.args.grid.now in
    let m = c.cycles.new.grid in
    let y = c.finish.new.grid in
    let none = c.requires.none in
    let made = c.cycles.ensures.cycles in
    let same = c.finish.ensures.cycles in
    let budget : c.budget-budget.result ≡ v.window.budget =
    c.budget-budget.ensures.value ∙ ap (λ (w : Seen). w.budget) c.window.ensures.value in
    let logged = returns-clause-logged g c in
    run_has_come g.W.Weather.next g.W.Weather.follows (blocks_of v) v.window.budget v.window.budget
    c.most_cycles-most.result y.state.counts.cycles (grid_of v) (grid_of y) refl
    (c.most_cycles-most.ensures.value ∙ ap most_cycles budget)
    c.keeps_invariant.ensures.blocks c.keeps_invariant.ensures.window c.requires.goes
    c.requires.kept.counted.adds
    (is_run g.W.Weather.next g.W.Weather.follows (blocks_of v) v.window.budget y.state.counts.cycles (grid_of v)
    (grid_of y) logged.notes logged.noted)
    (λ on.
    let all : c.cycles.result ≡ c.most_cycles-most.result =
    c.cycles.ensures.full (ap (λ b. is_going b m.window.window) c.cycles.ensures.budget
    ∙ on_before v.window.budget (grid_of m) (grid_of y)
    (c.finish.ensures.change ∙ ap (λ b. at_end b (grid_of m)) c.cycles.ensures.budget) on) in
    omega (arith, all, none, made, same))
    c.finish.result (returns-clause-value g c)

pub returns-clause-commits : goal.returns-clause-commits
returns-clause-commits g c =
    let v = c.args.grid.now in
    let y = c.finish.new.grid in
    let logged = returns-clause-logged g c in
    run_counts (blocks_of v) v.window.budget g.W.Weather.next g.W.Weather.follows y.state.counts.cycles (grid_of v)
    (grid_of y) (is_run g.W.Weather.next g.W.Weather.follows (blocks_of v) v.window.budget y.state.counts.cycles
    (grid_of v) (grid_of y) logged.notes logged.noted)

pub returns-clause-few : goal.returns-clause-few
returns-clause-few g c =
    let v = c.args.grid.now in
    let none = c.requires.none in
    let made = c.cycles.ensures.cycles in
    let same = c.finish.ensures.cycles in
    let few = c.cycles.ensures.few in
    let budget : c.budget-budget.result ≡ v.window.budget =
    c.budget-budget.ensures.value ∙ ap (λ (w : Seen). w.budget) c.window.ensures.value in
    let most : c.most_cycles-most.result ≡ most_cycles v.window.budget =
    c.most_cycles-most.ensures.value ∙ ap most_cycles budget in
    omega (arith, none, made, same, few, most)

pub returns-clause-kept : goal.returns-clause-kept
returns-clause-kept g c =
    subst (λ b. IsKept b (grid_of c.finish.new.grid)) c.cycles.ensures.budget c.finish.ensures.kept

pub returns-clause-image : goal.returns-clause-image
returns-clause-image g c = c.finish.ensures.image ∙ c.cycles.ensures.image

pub returns-clause-budget : goal.returns-clause-budget
returns-clause-budget g c = c.finish.ensures.budget ∙ c.cycles.ensures.budget
