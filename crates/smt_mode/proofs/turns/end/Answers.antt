use Rattle.std.proofs.Common.{arith}
use Rattle.smt_mode.specs.Machines.{blocks_of, seen_of}
use Rattle.smt_mode.proofs.TurnCounts.{end_quiet, stays}
use Rattle.smt_mode.proofs.turns.end.Goals as goal

pub ends-requires-clause-committed : goal.ends-requires-clause-committed
ends-requires-clause-committed c =
    let adds = c.requires.room.adds in
    let few = c.requires.room.few in
    omega (arith, adds, few)

pub ends-requires-clause-flushed : goal.ends-requires-clause-flushed
ends-requires-clause-flushed c =
    let adds = c.requires.room.adds in
    let few = c.requires.room.few in
    omega (arith, adds, few)

pub returns-clause-stays : goal.returns-clause-stays
returns-clause-stays c =
    let x = c.args.program.now in
    stays x c.ends.new.self c.ends.ensures.image c.ends.ensures.budget _ c.ends.ensures.change
    (end_quiet (blocks_of x) x.window.budget (seen_of x))
