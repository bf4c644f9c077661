use Rattle.std.proofs.Common.{ap, ◌∙◌, arith}
use Rattle.grid_cycle_spec.specs.Grid.{numbers_of}
use Rattle.grid_cycle_spec.specs.inside.Arrivals.{arrivals}
use Rattle.smt_mode.specs.Machines.{blocks_of, seen_of}
use Rattle.smt_mode.proofs.TurnCounts.{arrive_quiet, stays}
use Rattle.smt_mode.proofs.turns.arrive.Goals as goal

pub arrivals-requires-clause-room : goal.arrivals-requires-clause-room
arrivals-requires-clause-room c =
    let adds = c.requires.room.adds in
    let few = c.requires.room.few in
    omega (arith, adds, few)

pub returns-clause-change : goal.returns-clause-change
returns-clause-change c =
    let x = c.args.program.now in
    c.arrivals.ensures.change
    ∙ ap (λ ns. arrivals (blocks_of x) x.window.budget ns (seen_of x))
    (c.as_slice.ensures.value ∙ c.numbers-frames.ensures.value)

pub returns-clause-stays : goal.returns-clause-stays
returns-clause-stays c =
    let x = c.args.program.now in
    stays x c.arrivals.new.grid c.arrivals.ensures.image c.arrivals.ensures.budget _ (returns-clause-change c)
    (arrive_quiet (blocks_of x) x.window.budget (seen_of x) (numbers_of x.window.window.frames))
