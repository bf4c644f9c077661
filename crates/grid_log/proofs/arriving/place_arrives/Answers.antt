use Rattle.std.proofs.Common.{◌∙◌}
use Rattle.grid_parts.specs.Seen.{seen}
use Rattle.grid_log.proofs.Arrived.{arrived_logged}
use Rattle.grid_log.proofs.arriving.place_arrives.Goals as goal

pub returns-clause-told : goal.returns-clause-told
returns-clause-told g c =
    let v = c.args.grid.now.window in
    let h = c.place_arrives.new.grid in
    arrived_logged (g.V.Windows.blocks v) (g.V.Windows.budget v) c.args.place
    (seen (g.V.Windows.held v) c.args.grid.now.state) (seen (g.V.Windows.held h.window) h.state) c.args.log.now
    c.tell_arrival.new.log c.as_slice.result.now c.fetch_of-fetch.result
    (c.as_slice.ensures.value ∙ c.numbers-before.ensures.value) c.fetch_of-fetch.ensures c.args.frame
    c.event_at-event.result c.place_arrives.ensures.change c.event_at-event.ensures c.tell_arrival.ensures
