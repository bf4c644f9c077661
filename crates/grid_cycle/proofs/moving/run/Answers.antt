use Rattle.std.proofs.Common.{◌-◌, length, sym, ◌∙◌, subst, arith}
use Rattle.grid_machine.specs.Answered.{HasCome}
use Rattle.grid_machine.specs.WholeRuns.{most_cycles}
use Rattle.grid_cycle.specs.Engines.{blocks_of, grid_of}
use Rattle.grid_cycle.proofs.EngineFacts.{far_below, never_cut, runs_keep, same_image}
use Rattle.grid_cycle.proofs.moving.run.Goals as goal

pub run-ended-requires-clause-kept : goal.run-ended-requires-clause-kept
run-ended-requires-clause-kept g c = c.requires.engine.kept

pub run-ended-requires-clause-cycles : goal.run-ended-requires-clause-cycles
run-ended-requires-clause-cycles g c =
    let x = c.args.parts.now in
    let l = far_below x.window.budget x.state.counts.cycles c.requires.engine.small c.requires.engine.few in
    omega (arith, l)

pub unreachable-requires : goal.unreachable-requires
unreachable-requires g c =
    let x = c.args.parts.now in
    let y = c.run-ended.new.grid in
    let r = c.run-ended.ensures in
    let next = g.W.Weather.next in
    let follows = g.W.Weather.follows in
    let more = r.more in
    never_cut next follows (blocks_of x) x.window.budget g.met.W.Weather.bounded (grid_of x) (grid_of y)
    (runs_keep next follows (blocks_of x) x.window.budget (y.state.counts.cycles - x.state.counts.cycles)
    (grid_of x) (grid_of y) c.requires.engine r.run (omega (arith, more)) r.same (r.few c.requires.engine.few) r.kept)
    (λ on. subst (λ o. HasCome (blocks_of x) x.window.window.state
    (x.window.budget - length x.window.window.state.trace) x.window.budget (most_cycles x.window.budget) o
    (grid_of y))
    c.in-None.is (r.comes on))
    r.same (sym c.in-None.is ∙ r.value)

pub returns-clause-engine : goal.returns-clause-engine
returns-clause-engine g c =
    let x = c.args.parts.now in
    let y = c.run-ended.new.grid in
    let r = c.run-ended.ensures in
    let next = g.W.Weather.next in
    let follows = g.W.Weather.follows in
    let more = r.more in
    same_image next follows (blocks_of x) x.window.budget (blocks_of y) y.window.budget (grid_of y) r.image r.budget
    (runs_keep next follows (blocks_of x) x.window.budget (y.state.counts.cycles - x.state.counts.cycles)
    (grid_of x) (grid_of y) c.requires.engine r.run (omega (arith, more)) r.same (r.few c.requires.engine.few) r.kept)

pub returns-clause-value : goal.returns-clause-value
returns-clause-value g c = sym c.in-Some.is ∙ c.run-ended.ensures.value

pub returns-clause-comes : goal.returns-clause-comes
returns-clause-comes g c = λ on.
    let x = c.args.parts.now in
    subst (λ o. HasCome (blocks_of x) x.window.window.state
    (x.window.budget - length x.window.window.state.trace) x.window.budget (most_cycles x.window.budget) o
    (grid_of c.run-ended.new.grid)) c.in-Some.is (c.run-ended.ensures.comes on)

pub returns-clause-few : goal.returns-clause-few
returns-clause-few g c = c.run-ended.ensures.few c.requires.engine.few
