use Rattle.std.proofs.Common.{◌∙◌, subst}
use Rattle.grid_events.specs.Cycles.{closing}
use Rattle.grid_parts.specs.Seen.{seen}
use Rattle.grid_log.specs.Logs.{Logged}
use Rattle.grid_log.proofs.RunFacts.{closing_logged}
use Rattle.grid_log.proofs.running.close.Goals as goal

pub returns-clause-told : goal.returns-clause-told
returns-clause-told g c =
    let v = c.args.grid.now.window in
    let h = c.close.new.grid in
    let here = seen (g.V.Windows.held v) c.args.grid.now.state in
    subst (λ l. Logged l (closing here) c.tell_given_up.new.log) c.begin.ensures
    (closing_logged here (seen (g.V.Windows.held h.window) h.state) c.as_slice.result.now c.fetch_of-fetch.result
    c.fetch_of.result c.begin.new.self c.tell_flushes.new.log c.tell_given_up.new.log c.close.ensures.change
    (c.as_slice.ensures.value ∙ c.numbers-frames.ensures.value) c.fetch_of-fetch.ensures c.fetch_of.ensures
    c.tell_flushes.ensures c.tell_given_up.ensures)
