use Rattle.std.proofs.Common.{sym, ap, ◌∙◌, subst, arith}
use Rattle.grid_machine.specs.Endings.{ended, is_going}
use Rattle.grid_machine.specs.inside.WholeRuns.{IsKept}
use Rattle.grid_machine.proofs.CallFacts.{end_cycles, end_is, end_kept, going_ended, going_kept}
use Rattle.grid_machine.proofs.RunFacts.{end_going}
use Rattle.grid_cycle.specs.Engines.{grid_of}
use Rattle.grid_counted.proofs.NotedRuns.{closed_off, same_cycles}
use Rattle.grid_logged.proofs.Going.{end_kept as end_is_kept, none_kept}
use Rattle.grid_logged.proofs.running.finish.Goals as goal

pub returns-then-goes-clause-change : goal.returns-then-goes-clause-change
returns-then-goes-clause-change g c =
    sym (end_going c.args.grid.now.window.budget (grid_of c.args.grid.now) (sym c.if-goes.ensures))

pub returns-then-goes-clause-value : goal.returns-then-goes-clause-value
returns-then-goes-clause-value g c =
    going_ended c.args.grid.now.window.budget c.args.grid.now.window.window (sym c.if-goes.ensures)

pub returns-then-goes-clause-keeps : goal.returns-then-goes-clause-keeps
returns-then-goes-clause-keeps g c =
    let v = c.args.grid.now in
    none_kept c.args.first c.args.last v.state.counts.cycles v.window.budget (grid_of v) c.args.log.now
    (sym c.if-goes.ensures)

pub returns-then-goes-clause-kept : goal.returns-then-goes-clause-kept
returns-then-goes-clause-kept g c =
    going_kept c.args.grid.now.window.budget (grid_of c.args.grid.now) (sym c.if-goes.ensures) c.requires.counted

pub run-requires-clause-kept : goal.run-requires-clause-kept
run-requires-clause-kept g c =
    let v = c.args.grid.now in
    let x = c.close_run.new.grid in
    subst (λ b. IsKept b (grid_of x)) (sym c.close_run.ensures.budget)
    (end_kept v.window.budget (grid_of v) (grid_of x) (sym c.if-goes.ensures) c.close_run.ensures.change
    c.requires.counted)

pub run-requires-clause-cycles : goal.run-requires-clause-cycles
run-requires-clause-cycles g c =
    let v = c.args.grid.now in
    let x = c.close_run.new.grid in
    let same = end_cycles v.window.budget (grid_of v) (grid_of x) (sym c.if-goes.ensures) c.close_run.ensures.change
    in
    let room = c.requires.cycles in
    omega (arith, same, room)

pub returns-clause-change : goal.returns-clause-change
returns-clause-change g c =
    let v = c.args.grid.now in
    let x = c.close_run.new.grid in
    c.run.ensures.same (ap (λ b. is_going b x.window.window) c.close_run.ensures.budget
    ∙ closed_off v.window.budget (grid_of v) (grid_of x) c.close_run.ensures.change (sym c.if-goes.ensures))
    ∙ end_is v.window.budget (grid_of v) (grid_of x) (sym c.if-goes.ensures) c.close_run.ensures.change

pub returns-clause-value : goal.returns-clause-value
returns-clause-value g c =
    c.run.ensures.value ∙ ap (λ b. ended b c.run.new.grid.window.window) c.close_run.ensures.budget

pub returns-clause-keeps : goal.returns-clause-keeps
returns-clause-keeps g c =
    let v = c.args.grid.now in
    end_is_kept c.args.first c.args.last v.state.counts.cycles v.window.budget (grid_of v) c.args.log.now
    c.close_run.new.log (sym c.if-goes.ensures) c.close_run.ensures.keeps

pub returns-clause-kept : goal.returns-clause-kept
returns-clause-kept g c =
    subst (λ b. IsKept b (grid_of c.run.new.grid)) c.close_run.ensures.budget c.run.ensures.kept

pub returns-clause-cycles : goal.returns-clause-cycles
returns-clause-cycles g c =
    let v = c.args.grid.now in
    let x = c.close_run.new.grid in
    same_cycles (grid_of x) (grid_of c.run.new.grid)
    (c.run.ensures.same (ap (λ b. is_going b x.window.window) c.close_run.ensures.budget
    ∙ closed_off v.window.budget (grid_of v) (grid_of x) c.close_run.ensures.change (sym c.if-goes.ensures)))
    ∙ end_cycles v.window.budget (grid_of v) (grid_of x) (sym c.if-goes.ensures) c.close_run.ensures.change

pub returns-clause-image : goal.returns-clause-image
returns-clause-image g c = c.run.ensures.image ∙ c.close_run.ensures.image

pub returns-clause-budget : goal.returns-clause-budget
returns-clause-budget g c = c.run.ensures.budget ∙ c.close_run.ensures.budget
