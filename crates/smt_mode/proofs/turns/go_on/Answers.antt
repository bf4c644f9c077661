use Rattle.std.proofs.Common.{arith}
use Rattle.smt_mode.proofs.TurnCounts.{stays_on}
use Rattle.smt_mode.proofs.turns.go_on.Goals as goal

pub fetch_goes_on-requires : goal.fetch_goes_on-requires
fetch_goes_on-requires c =
    let adds = c.requires.room.adds in
    let few = c.requires.room.few in
    omega (arith, adds, few)

pub returns-clause-stays : goal.returns-clause-stays
returns-clause-stays c =
    stays_on c.args.program.now c.fetch_goes_on.new.self c.fetch_goes_on.ensures.image c.fetch_goes_on.ensures.budget
    c.fetch_goes_on.ensures.change
