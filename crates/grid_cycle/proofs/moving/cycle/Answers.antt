use Rattle.grid_cycle.specs.Engines.{blocks_of, grid_of}
use Rattle.grid_machine.specs.WholeRuns.{going_cycles}
use Rattle.grid_cycle.proofs.EngineFacts.{cycle_few, far_below, runs_keep, same_image}
use Rattle.grid_cycle.proofs.History.{cycle_of}
use Rattle.grid_cycle.proofs.moving.cycle.Goals as goal

pub cycle-requires-clause-kept : goal.cycle-requires-clause-kept
cycle-requires-clause-kept g c = c.requires.engine.kept

pub cycle-requires-clause-cycles : goal.cycle-requires-clause-cycles
cycle-requires-clause-cycles g c =
    let x = c.args.parts.now in
    far_below x.window.budget x.state.counts.cycles c.requires.engine.small c.requires.engine.few

pub returns-clause-engine : goal.returns-clause-engine
returns-clause-engine g c =
    let x = c.args.parts.now in
    let y = c.cycle.new.grid in
    let next = g.W.Weather.next in
    let follows = g.W.Weather.follows in
    same_image next follows (blocks_of x) x.window.budget (blocks_of y) y.window.budget (grid_of y)
    c.cycle.ensures.image c.cycle.ensures.budget
    (runs_keep next follows (blocks_of x) x.window.budget (going_cycles x.window.budget x.window.window)
    (grid_of x) (grid_of y) c.requires.engine c.cycle.ensures.run c.cycle.ensures.cycles c.cycle.ensures.same
    (cycle_few next follows (blocks_of x) x.window.budget g.met.W.Weather.bounded (grid_of x) (grid_of y)
    c.requires.engine c.cycle.ensures.cycles) c.cycle.ensures.kept)

pub returns-clause-eager : goal.returns-clause-eager
returns-clause-eager g c = λ on.
    let x = c.args.parts.now in
    cycle_of g.W.Weather.next g.W.Weather.follows (blocks_of x) x.window.budget (grid_of x)
    (grid_of c.cycle.new.grid) on
    c.cycle.ensures.run
