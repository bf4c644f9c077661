use Rattle.std.proofs.Common.{false}
use Rattle.grid_log.specs.declared.event.Event.TheVariants as event
use Rattle.trips_event_lines.proofs.LineFacts.{item_step}
use Rattle.trips_event_lines.specs.Lines.{line}
use Rattle.trips_event_lines.proofs.lines.put_lines.Goals as goal

pub loop-entry-preserved : goal.loop-entry-preserved
loop-entry-preserved c = item_step line c.loop-entry.entry-index c.args.entries.now
    (record { cycle = 0; event = event.Begins 0 false }) c.args.out.now.items c.loop-entry.out.items _
    c.loop-entry-test.true c.loop-entry.invariant c.in_ok-put_line.ensures.ok
