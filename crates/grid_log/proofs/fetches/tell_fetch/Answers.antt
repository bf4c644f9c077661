use Rattle.std.proofs.Common.{[], ◌∷◌, sym, subst}
use Rattle.grid_events.specs.Notes.{Begins, Predicts}
use Rattle.grid_log.specs.Logs.{Logged}
use Rattle.grid_log.specs.inside.Telling.{predicted_if}
use Rattle.grid_log.proofs.Logging.{logged_both}
use Rattle.grid_log.proofs.fetches.tell_fetch.Goals as goal

pub returns-in-Some : goal.returns-in-Some
returns-in-Some c =
    let begins = Begins c.args.block c.args.careful ∷ [] in
    subst (λ o. Logged c.args.log.now (predicted_if o c.args.block begins) c.keep-in-Some.new.self) (sym c.in-Some.is)
    (logged_both c.args.log.now c.keep.new.self c.keep-in-Some.new.self (Predicts c.in-Some.frame c.args.block ∷ [])
    begins c.keep.ensures c.keep-in-Some.ensures)
