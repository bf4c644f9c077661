use Rattle.std.proofs.Common.{◌++◌, subst}
use Rattle.grid_events.specs.Plays.{block_of}
use Rattle.grid_log.specs.Logs.{Logged}
use Rattle.grid_log.specs.inside.Telling.{ended_by, given_up}
use Rattle.grid_log.proofs.Logging.{logged_both}
use Rattle.grid_log.proofs.ends.tell_commit.Goals as goal

pub returns : goal.returns
returns g c =
    let w = g.V.Windows.held c.args.grid.now.window in
    let p = c.args.oldest in
    let ns = c.args.order.now in
    logged_both c.args.log.now c.tell_end.new.log c.tell_given_up.new.log (ended_by w.over p.0 p.1 ns)
    (given_up c.args.fetch (block_of c.args.grid.now.state.fetching))
    (subst (λ s. Logged c.args.log.now (ended_by s p.0 p.1 ns) c.tell_end.new.log) c.over.ensures c.tell_end.ensures)
    (subst (λ o. Logged c.tell_end.new.log (given_up c.args.fetch o) c.tell_given_up.new.log)
    c.fetch_of.ensures c.tell_given_up.ensures)
