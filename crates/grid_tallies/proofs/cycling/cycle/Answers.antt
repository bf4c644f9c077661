use Rattle.std.proofs.Common.{refl, arith}
use Rattle.trips_isa.specs.declared.run.Stepped.TheVariants as stepped
use Rattle.grid_parts.specs.Seen.{seen}
use Rattle.grid_machine.proofs.Rooms.{ends_counted, ends_cycles, eager_counted, eager_cycles}
use Rattle.grid_tallies.proofs.CycleFacts.{counted_eager, counted_last, counted_on, ends_hear, goes_same}
use Rattle.grid_tallies.proofs.cycling.cycle.Goals as goal

pub ends-requires-clause-committed : goal.ends-requires-clause-committed
ends-requires-clause-committed g c =
    let adds = c.requires.counted.adds in
    let few = c.requires.counted.fetched in
    let room = c.requires.cycles in
    omega (arith, adds, few, room)

pub ends-requires-clause-flushed : goal.ends-requires-clause-flushed
ends-requires-clause-flushed g c =
    let adds = c.requires.counted.adds in
    let few = c.requires.counted.fetched in
    let room = c.requires.cycles in
    omega (arith, adds, few, room)

pub goes_on-requires-clause-counted : goal.goes_on-requires-clause-counted
goes_on-requires-clause-counted g c =
    let v = c.args.grid.now.window in
    let x = c.ends.new.grid in
    ends_counted (g.V.Windows.blocks v) (g.V.Windows.budget v) (seen (g.V.Windows.held v) c.args.grid.now.state)
    (seen (g.V.Windows.held x.window) x.state) c.ends.ensures.change c.requires.counted

pub goes_on-requires-clause-cycles : goal.goes_on-requires-clause-cycles
goes_on-requires-clause-cycles g c =
    let v = c.args.grid.now.window in
    let x = c.ends.new.grid in
    let made = ends_cycles (g.V.Windows.blocks v) (g.V.Windows.budget v)
    (seen (g.V.Windows.held v) c.args.grid.now.state) (seen (g.V.Windows.held x.window) x.state)
    c.ends.ensures.change in
    let room = c.requires.cycles in
    omega (arith, made, room)

pub returns-in-Went-clause-eager : goal.returns-in-Went-clause-eager
returns-in-Went-clause-eager g c =
    let v = c.args.grid.now.window in
    let bs = g.V.Windows.blocks v in
    let b = g.V.Windows.budget v in
    let here = seen (g.V.Windows.held v) c.args.grid.now.state in
    let h = c.goes_on.new.grid in
    let x = c.ends.new.grid in
    let m = seen (g.V.Windows.held x.window) x.state in
    counted_on g.W.Weather.next g.W.Weather.follows bs b here m (seen (g.V.Windows.held h.window) h.state)
    c.args.told.now
    (record c.args.told.now { tallies = c.ends.new.told }) c.goes_on.new.told c.ends.ensures.change
    c.in-Went.ensures (ends_hear bs b here c.args.told.now c.ends.new.told c.ends.ensures.heard)
    (goes_same g.W.Weather.next g.W.Weather.follows bs b (g.V.Windows.blocks x.window) (g.V.Windows.budget x.window) m
    (seen (g.V.Windows.held h.window) h.state) (record c.args.told.now { tallies = c.ends.new.told })
    c.goes_on.new.told c.ends.ensures.image
    c.ends.ensures.budget
    c.goes_on.ensures.goes)

pub returns-in-Went-clause-counted : goal.returns-in-Went-clause-counted
returns-in-Went-clause-counted g c =
    let v = c.args.grid.now.window in
    let bs = g.V.Windows.blocks v in
    let b = g.V.Windows.budget v in
    let here = seen (g.V.Windows.held v) c.args.grid.now.state in
    let h = c.goes_on.new.grid in
    eager_counted g.W.Weather.next g.W.Weather.follows bs b here (seen (g.V.Windows.held h.window) h.state)
    c.requires.counted
    (counted_eager g.W.Weather.next g.W.Weather.follows bs b here (seen (g.V.Windows.held h.window) h.state)
    c.args.told.now c.goes_on.new.told (returns-in-Went-clause-eager g c))

pub returns-in-Went-clause-cycles : goal.returns-in-Went-clause-cycles
returns-in-Went-clause-cycles g c =
    let v = c.args.grid.now.window in
    let bs = g.V.Windows.blocks v in
    let b = g.V.Windows.budget v in
    let here = seen (g.V.Windows.held v) c.args.grid.now.state in
    let h = c.goes_on.new.grid in
    eager_cycles g.W.Weather.next g.W.Weather.follows bs b here (seen (g.V.Windows.held h.window) h.state)
    (counted_eager g.W.Weather.next g.W.Weather.follows bs b here (seen (g.V.Windows.held h.window) h.state)
    c.args.told.now c.goes_on.new.told (returns-in-Went-clause-eager g c))

pub count_cycle-requires : goal.count_cycle-requires
count_cycle-requires g c =
    let v = c.args.grid.now.window in
    let x = c.ends.new.grid in
    let made = ends_cycles (g.V.Windows.blocks v) (g.V.Windows.budget v)
    (seen (g.V.Windows.held v) c.args.grid.now.state) (seen (g.V.Windows.held x.window) x.state)
    c.ends.ensures.change in
    let room = c.requires.cycles in
    omega (arith, made, room)

pub returns-in-Ended-clause-eager : goal.returns-in-Ended-clause-eager
returns-in-Ended-clause-eager g c =
    let v = c.args.grid.now.window in
    let bs = g.V.Windows.blocks v in
    let b = g.V.Windows.budget v in
    let here = seen (g.V.Windows.held v) c.args.grid.now.state in
    let x = c.ends.new.grid in
    let m = seen (g.V.Windows.held x.window) x.state in
    counted_last g.W.Weather.next g.W.Weather.follows bs b stepped.Ended here m
    (seen (g.V.Windows.held c.ends.new.grid.window) c.count_cycle.new.self) c.args.told.now
    (record c.args.told.now { tallies = c.ends.new.told })
    c.ends.ensures.change
    c.in-Ended.ensures (ends_hear bs b here c.args.told.now c.ends.new.told c.ends.ensures.heard)
    (λ y e. record { ended = e; told = refl })
    (c.count_cycle.ensures (g.V.Windows.held x.window))

pub returns-in-Ended-clause-counted : goal.returns-in-Ended-clause-counted
returns-in-Ended-clause-counted g c =
    let v = c.args.grid.now.window in
    let bs = g.V.Windows.blocks v in
    let b = g.V.Windows.budget v in
    let here = seen (g.V.Windows.held v) c.args.grid.now.state in
    eager_counted g.W.Weather.next g.W.Weather.follows bs b here
    (seen (g.V.Windows.held c.ends.new.grid.window) c.count_cycle.new.self) c.requires.counted
    (counted_eager g.W.Weather.next g.W.Weather.follows bs b here
    (seen (g.V.Windows.held c.ends.new.grid.window) c.count_cycle.new.self)
    c.args.told.now (record c.args.told.now { tallies = c.ends.new.told }) (returns-in-Ended-clause-eager g c))

pub returns-in-Ended-clause-cycles : goal.returns-in-Ended-clause-cycles
returns-in-Ended-clause-cycles g c =
    let v = c.args.grid.now.window in
    let bs = g.V.Windows.blocks v in
    let b = g.V.Windows.budget v in
    let here = seen (g.V.Windows.held v) c.args.grid.now.state in
    eager_cycles g.W.Weather.next g.W.Weather.follows bs b here
    (seen (g.V.Windows.held c.ends.new.grid.window) c.count_cycle.new.self)
    (counted_eager g.W.Weather.next g.W.Weather.follows bs b here
    (seen (g.V.Windows.held c.ends.new.grid.window) c.count_cycle.new.self)
    c.args.told.now (record c.args.told.now { tallies = c.ends.new.told }) (returns-in-Ended-clause-eager g c))

pub count_cycle-requires-in-StackFull : goal.count_cycle-requires-in-StackFull
count_cycle-requires-in-StackFull g c =
    let v = c.args.grid.now.window in
    let x = c.ends.new.grid in
    let made = ends_cycles (g.V.Windows.blocks v) (g.V.Windows.budget v)
    (seen (g.V.Windows.held v) c.args.grid.now.state) (seen (g.V.Windows.held x.window) x.state)
    c.ends.ensures.change in
    let room = c.requires.cycles in
    omega (arith, made, room)

pub returns-in-StackFull-clause-eager : goal.returns-in-StackFull-clause-eager
returns-in-StackFull-clause-eager g c =
    let v = c.args.grid.now.window in
    let bs = g.V.Windows.blocks v in
    let b = g.V.Windows.budget v in
    let here = seen (g.V.Windows.held v) c.args.grid.now.state in
    let x = c.ends.new.grid in
    let m = seen (g.V.Windows.held x.window) x.state in
    counted_last g.W.Weather.next g.W.Weather.follows bs b stepped.StackFull here m
    (seen (g.V.Windows.held c.ends.new.grid.window) c.count_cycle-in-StackFull.new.self) c.args.told.now
    (record c.args.told.now { tallies = c.ends.new.told }) c.ends.ensures.change
    c.in-StackFull.ensures (ends_hear bs b here c.args.told.now c.ends.new.told c.ends.ensures.heard)
    (λ y e. record { ended = e; told = refl })
    (c.count_cycle-in-StackFull.ensures (g.V.Windows.held x.window))

pub returns-in-StackFull-clause-counted : goal.returns-in-StackFull-clause-counted
returns-in-StackFull-clause-counted g c =
    let v = c.args.grid.now.window in
    let bs = g.V.Windows.blocks v in
    let b = g.V.Windows.budget v in
    let here = seen (g.V.Windows.held v) c.args.grid.now.state in
    eager_counted g.W.Weather.next g.W.Weather.follows bs b here
    (seen (g.V.Windows.held c.ends.new.grid.window) c.count_cycle-in-StackFull.new.self) c.requires.counted
    (counted_eager g.W.Weather.next g.W.Weather.follows bs b here
    (seen (g.V.Windows.held c.ends.new.grid.window) c.count_cycle-in-StackFull.new.self)
    c.args.told.now (record c.args.told.now { tallies = c.ends.new.told }) (returns-in-StackFull-clause-eager g c))

pub returns-in-StackFull-clause-cycles : goal.returns-in-StackFull-clause-cycles
returns-in-StackFull-clause-cycles g c =
    let v = c.args.grid.now.window in
    let bs = g.V.Windows.blocks v in
    let b = g.V.Windows.budget v in
    let here = seen (g.V.Windows.held v) c.args.grid.now.state in
    eager_cycles g.W.Weather.next g.W.Weather.follows bs b here
    (seen (g.V.Windows.held c.ends.new.grid.window) c.count_cycle-in-StackFull.new.self)
    (counted_eager g.W.Weather.next g.W.Weather.follows bs b here
    (seen (g.V.Windows.held c.ends.new.grid.window) c.count_cycle-in-StackFull.new.self)
    c.args.told.now (record c.args.told.now { tallies = c.ends.new.told }) (returns-in-StackFull-clause-eager g c))

pub count_cycle-requires-in-Trap : goal.count_cycle-requires-in-Trap
count_cycle-requires-in-Trap g c =
    let v = c.args.grid.now.window in
    let x = c.ends.new.grid in
    let made = ends_cycles (g.V.Windows.blocks v) (g.V.Windows.budget v)
    (seen (g.V.Windows.held v) c.args.grid.now.state) (seen (g.V.Windows.held x.window) x.state)
    c.ends.ensures.change in
    let room = c.requires.cycles in
    omega (arith, made, room)

pub returns-in-Trap-clause-eager : goal.returns-in-Trap-clause-eager
returns-in-Trap-clause-eager g c =
    let v = c.args.grid.now.window in
    let bs = g.V.Windows.blocks v in
    let b = g.V.Windows.budget v in
    let here = seen (g.V.Windows.held v) c.args.grid.now.state in
    let x = c.ends.new.grid in
    let m = seen (g.V.Windows.held x.window) x.state in
    counted_last g.W.Weather.next g.W.Weather.follows bs b (stepped.Trap c.in-Trap.field-0) here m
    (seen (g.V.Windows.held c.ends.new.grid.window) c.count_cycle-in-Trap.new.self) c.args.told.now
    (record c.args.told.now { tallies = c.ends.new.told })
    c.ends.ensures.change
    c.in-Trap.ensures (ends_hear bs b here c.args.told.now c.ends.new.told c.ends.ensures.heard)
    (λ y e. record { ended = e; told = refl })
    (c.count_cycle-in-Trap.ensures (g.V.Windows.held x.window))

pub returns-in-Trap-clause-counted : goal.returns-in-Trap-clause-counted
returns-in-Trap-clause-counted g c =
    let v = c.args.grid.now.window in
    let bs = g.V.Windows.blocks v in
    let b = g.V.Windows.budget v in
    let here = seen (g.V.Windows.held v) c.args.grid.now.state in
    eager_counted g.W.Weather.next g.W.Weather.follows bs b here
    (seen (g.V.Windows.held c.ends.new.grid.window) c.count_cycle-in-Trap.new.self) c.requires.counted
    (counted_eager g.W.Weather.next g.W.Weather.follows bs b here
    (seen (g.V.Windows.held c.ends.new.grid.window) c.count_cycle-in-Trap.new.self)
    c.args.told.now (record c.args.told.now { tallies = c.ends.new.told }) (returns-in-Trap-clause-eager g c))

pub returns-in-Trap-clause-cycles : goal.returns-in-Trap-clause-cycles
returns-in-Trap-clause-cycles g c =
    let v = c.args.grid.now.window in
    let bs = g.V.Windows.blocks v in
    let b = g.V.Windows.budget v in
    let here = seen (g.V.Windows.held v) c.args.grid.now.state in
    eager_cycles g.W.Weather.next g.W.Weather.follows bs b here
    (seen (g.V.Windows.held c.ends.new.grid.window) c.count_cycle-in-Trap.new.self)
    (counted_eager g.W.Weather.next g.W.Weather.follows bs b here
    (seen (g.V.Windows.held c.ends.new.grid.window) c.count_cycle-in-Trap.new.self)
    c.args.told.now (record c.args.told.now { tallies = c.ends.new.told }) (returns-in-Trap-clause-eager g c))
