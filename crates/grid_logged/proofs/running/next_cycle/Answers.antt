use Rattle.std.proofs.Common.{sym}
use Rattle.grid_cycle.specs.Engines.{blocks_of, grid_of}
use Rattle.grid_logged.proofs.Going.{logged_next, passed_next}
use Rattle.grid_logged.proofs.running.next_cycle.Goals as goal

pub returns-then-is_between-clause-next : goal.returns-then-is_between-clause-next
returns-then-is_between-clause-next g c =
    let v = c.args.grid.now in
    logged_next g.W.Weather.next g.W.Weather.follows (blocks_of v) v.window.budget c.args.first c.args.last
    (grid_of v) (grid_of c.cycle.new.grid) c.args.log.now c.cycle.new.log (sym c.if-is_between.ensures)
    c.cycle.ensures.eager

pub returns-else-is_between-clause-next : goal.returns-else-is_between-clause-next
returns-else-is_between-clause-next g c =
    let v = c.args.grid.now in
    passed_next g.W.Weather.next g.W.Weather.follows (blocks_of v) v.window.budget c.args.first c.args.last
    (grid_of v) (grid_of c.cycle-else-is_between.new.grid) c.args.log.now (sym c.if-is_between.ensures)
    c.cycle-else-is_between.ensures.eager
