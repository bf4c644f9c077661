use Rattle.grid_parts.specs.Seen.{seen}
use Rattle.grid_log.proofs.Fetching.{fetch_logged}
use Rattle.grid_log.proofs.fetches.goes_on.Goals as goal

pub returns-clause-told : goal.returns-clause-told
returns-clause-told g c =
    let v = c.args.grid.now.window in
    fetch_logged (g.V.Windows.blocks v) (g.V.Windows.budget v) (seen (g.V.Windows.held v) c.args.grid.now.state)
    c.due-due.result c.may_fill-may.result c.lowest_empty-room.result c.args.log.now c.tell_due.new.log
    c.due-due.ensures c.may_fill-may.ensures c.lowest_empty-room.ensures.value c.tell_due.ensures
