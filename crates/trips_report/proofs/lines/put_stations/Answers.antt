use Rattle.std.proofs.Common.{arith}
use Rattle.target_asm_spec.proofs.Numbered.{numbered_step}
use Rattle.trips_report.proofs.ListedTexts.{numbered_all}
use Rattle.trips_report.specs.Runs.{station_line}
use Rattle.trips_report.proofs.lines.put_stations.Goals as goal

pub loop-n-preserved : goal.loop-n-preserved
loop-n-preserved c = numbered_step station_line c.loop-n.n c.args.cycles.now 0 c.args.out.now.items
    c.loop-n.out.items _ (omega (arith, c.loop-n-test.true)) c.loop-n.invariant c.in_ok-put_station.ensures.ok

pub returns : goal.returns
returns c = record {
  ok = numbered_all station_line c.loop-n.n c.args.cycles.now c.args.out.now.items c.loop-n.out.items
      (omega (arith, c.loop-n-test.false)) c.loop-n.invariant;
}
