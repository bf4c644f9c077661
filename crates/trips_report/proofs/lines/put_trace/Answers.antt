use Rattle.trips_report.proofs.ListedTexts.{item_step}
use Rattle.trips_report.specs.Runs.{traced_line}
use Rattle.trips_report.proofs.lines.put_trace.Goals as goal

pub loop-traced-preserved : goal.loop-traced-preserved
loop-traced-preserved c = item_step traced_line c.loop-traced.traced-index c.args.trace.now
    (record { block = 0; exit = 0 }) c.args.out.now.items c.loop-traced.out.items _
    c.loop-traced-test.true c.loop-traced.invariant c.in_ok-put_traced.ensures.ok
