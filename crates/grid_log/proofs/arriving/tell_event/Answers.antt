use Rattle.std.proofs.Common.{[], ◌∷◌, ◌++◌, length, drop, sym, subst}
use Rattle.grid_events.specs.Notes.{Leaves, WrongExit}
use Rattle.grid_events.specs.Plays.{block_of}
use Rattle.grid_log.specs.Events.{note_of}
use Rattle.grid_log.specs.Logs.{Logged}
use Rattle.grid_log.specs.inside.Telling.{flushed_by, given_up, with_gone}
use Rattle.grid_log.proofs.Logging.{logged_both}
use Rattle.grid_log.proofs.arriving.tell_event.Goals as goal

pub returns-in-Leaves : goal.returns-in-Leaves
returns-in-Leaves g c =
    let ns = drop (length (g.V.Windows.held c.args.grid.now.window).frames) c.args.before.now in
    let es = given_up c.args.fetch (block_of c.args.grid.now.state.fetching) in
    subst (λ e. Logged c.args.log.now (with_gone e ns es) c.tell_gone.new.log) (sym c.in-Leaves.is)
    (logged_both c.args.log.now c.keep.new.self c.tell_gone.new.log (Leaves c.in-Leaves.frame c.in-Leaves.block ∷ [])
    (flushed_by WrongExit ns ++ es)
    (subst (λ e. Logged c.args.log.now (note_of e ∷ []) c.keep.new.self) c.in-Leaves.is c.keep.ensures)
    c.tell_gone.ensures)
