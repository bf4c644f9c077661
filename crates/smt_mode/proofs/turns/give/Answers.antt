use Rattle.std.proofs.Common.{ap}
use Rattle.smt_mode.specs.Machines.{blocks_of, seen_of}
use Rattle.smt_mode.proofs.TurnCounts.{give_quiet, stays}
use Rattle.smt_mode.proofs.turns.give.Goals as goal

pub returns-clause-stays : goal.returns-clause-stays
returns-clause-stays c =
    let x = c.args.program.now in
    let same = c.gives.ensures.same in
    stays x c.gives.new.self (ap (λ w. w.image.blocks) same) (ap (λ w. w.budget) same) _ c.gives.ensures.change
    (give_quiet (blocks_of x) x.window.budget (seen_of x) c.args.tile)
