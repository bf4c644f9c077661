use Rattle.std.proofs.Common.{arith}
use Rattle.trips_isa.specs.declared.run.Traced.{Traced}
use Rattle.trips_report.proofs.CommitFacts.{has_room}
use Rattle.trips_report.proofs.commits.counts_of.Goals as goal

pub overflow_add-index_mut : goal.overflow_add-index_mut
overflow_add-index_mut c =
    let d : Traced = record { block = 0; exit = 0 } in
    let few = has_room c.loop-traced.counts.items c.args.trace.now c.loop-traced.traced-index c.args.numbers
    c.index_mut.result.now d c.loop-traced-test.true c.loop-traced.invariant.size c.loop-traced.invariant.fits
    c.loop-traced.invariant.each c.index_mut.ensures.value in
    omega (arith, few)
