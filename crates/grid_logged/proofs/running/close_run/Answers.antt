use Rattle.std.proofs.Common.{sym}
use Rattle.grid_events.specs.Cycles.{closing}
use Rattle.grid_cycle.specs.Engines.{grid_of}
use Rattle.grid_logged.proofs.Going.{logged_kept, passed_kept}
use Rattle.grid_logged.proofs.running.close_run.Goals as goal

pub returns-then-is_between-clause-keeps : goal.returns-then-is_between-clause-keeps
returns-then-is_between-clause-keeps g c =
    let v = c.args.grid.now in
    logged_kept c.args.first c.args.last v.state.counts.cycles (closing (grid_of v)) c.args.log.now c.close.new.log
    (sym c.if-is_between.ensures) c.close.ensures.told

pub returns-else-is_between-clause-keeps : goal.returns-else-is_between-clause-keeps
returns-else-is_between-clause-keeps g c =
    let v = c.args.grid.now in
    passed_kept c.args.first c.args.last v.state.counts.cycles (closing (grid_of v)) c.args.log.now
    (sym c.if-is_between.ensures)
