use Rattle.grid_cycle.specs.Engines.{blocks_of, grid_of}
use Rattle.grid_cycle.proofs.EngineFacts.{tallied, within}
use Rattle.grid_cycle.proofs.moving.keeps_cost.Goals as goal

pub returns-clause-within : goal.returns-clause-within
returns-clause-within g c =
    let x = c.args.parts.now in
    within g.W.Weather.next g.W.Weather.follows (blocks_of x) x.window.budget g.met.W.Weather.bounded (grid_of x)
    c.requires.engine

pub returns-clause-tallied : goal.returns-clause-tallied
returns-clause-tallied g c =
    let x = c.args.parts.now in
    tallied g.W.Weather.next g.W.Weather.follows (blocks_of x) x.window.budget (grid_of x) c.requires.engine
