use Rattle.std.proofs.Common.{[], ◌∷◌, sym, subst}
use Rattle.grid_events.specs.Notes.{End, Traps}
use Rattle.grid_log.specs.Logs.{Logged}
use Rattle.grid_log.specs.inside.Telling.{ended_by, flushed_by}
use Rattle.grid_log.proofs.Logging.{logged_both}
use Rattle.grid_log.proofs.ends.tell_end.Goals as goal

pub returns-in-Trap : goal.returns-in-Trap
returns-in-Trap c =
    let ns = c.args.order.now in
    subst (λ s. Logged c.args.log.now (ended_by s c.args.frame c.args.block ns) c.tell_flushes.new.log)
    (sym c.in-Trap.is)
    (logged_both c.args.log.now c.keep.new.self c.tell_flushes.new.log (Traps c.args.frame c.args.block ∷ [])
    (flushed_by End ns) c.keep.ensures c.tell_flushes.ensures)
