use Rattle.std.proofs.Common.{refl, subst, arith}
use Rattle.trips_isa.specs.declared.run.Stepped.TheVariants as stepped
use Rattle.grid_parts.specs.Seen.{seen}
use Rattle.grid_machine.proofs.Rooms.{ends_counted, ends_cycles, eager_counted, eager_cycles}
use Rattle.grid_events.specs.EndNotes.{ends_notes}
use Rattle.grid_log.specs.Logs.{Logged}
use Rattle.grid_log.proofs.CycleFacts.{goes_same, logged_eager, logged_last, logged_on}
use Rattle.grid_log.proofs.cycling.cycle.Goals as goal

pub ends-requires-clause-committed : goal.ends-requires-clause-committed
ends-requires-clause-committed g c =
    let adds = c.requires.counted.adds in
    let few = c.requires.counted.fetched in
    let room = c.requires.cycles in
    omega (arith, adds, few, room)

pub ends-requires-clause-flushed : goal.ends-requires-clause-flushed
ends-requires-clause-flushed g c =
    let adds = c.requires.counted.adds in
    let few = c.requires.counted.fetched in
    let room = c.requires.cycles in
    omega (arith, adds, few, room)

pub goes_on-requires-clause-counted : goal.goes_on-requires-clause-counted
goes_on-requires-clause-counted g c =
    let v = c.args.grid.now.window in
    let x = c.ends.new.grid in
    ends_counted (g.V.Windows.blocks v) (g.V.Windows.budget v) (seen (g.V.Windows.held v) c.args.grid.now.state)
    (seen (g.V.Windows.held x.window) x.state) c.ends.ensures.change c.requires.counted

pub goes_on-requires-clause-cycles : goal.goes_on-requires-clause-cycles
goes_on-requires-clause-cycles g c =
    let v = c.args.grid.now.window in
    let x = c.ends.new.grid in
    let made = ends_cycles (g.V.Windows.blocks v) (g.V.Windows.budget v)
    (seen (g.V.Windows.held v) c.args.grid.now.state) (seen (g.V.Windows.held x.window) x.state)
    c.ends.ensures.change in
    let room = c.requires.cycles in
    omega (arith, made, room)

pub returns-in-Went-clause-eager : goal.returns-in-Went-clause-eager
returns-in-Went-clause-eager g c =
    let v = c.args.grid.now.window in
    let bs = g.V.Windows.blocks v in
    let b = g.V.Windows.budget v in
    let here = seen (g.V.Windows.held v) c.args.grid.now.state in
    let h = c.goes_on.new.grid in
    let x = c.ends.new.grid in
    let m = seen (g.V.Windows.held x.window) x.state in
    logged_on g.W.Weather.next g.W.Weather.follows bs b here m (seen (g.V.Windows.held h.window) h.state)
    c.args.log.now
    c.ends.new.log c.goes_on.new.log c.ends.ensures.change c.in-Went.ensures
    (subst (λ l. Logged l (ends_notes bs b here) c.ends.new.log) c.begin.ensures
    c.ends.ensures.told)
    (goes_same g.W.Weather.next g.W.Weather.follows bs b (g.V.Windows.blocks x.window) (g.V.Windows.budget x.window) m
    (seen (g.V.Windows.held h.window) h.state) c.ends.new.log c.goes_on.new.log c.ends.ensures.image
    c.ends.ensures.budget
    c.goes_on.ensures.goes)

pub returns-in-Went-clause-counted : goal.returns-in-Went-clause-counted
returns-in-Went-clause-counted g c =
    let v = c.args.grid.now.window in
    let bs = g.V.Windows.blocks v in
    let b = g.V.Windows.budget v in
    let here = seen (g.V.Windows.held v) c.args.grid.now.state in
    let h = c.goes_on.new.grid in
    eager_counted g.W.Weather.next g.W.Weather.follows bs b here (seen (g.V.Windows.held h.window) h.state)
    c.requires.counted
    (logged_eager g.W.Weather.next g.W.Weather.follows bs b here (seen (g.V.Windows.held h.window) h.state)
    c.args.log.now c.goes_on.new.log (returns-in-Went-clause-eager g c))

pub returns-in-Went-clause-cycles : goal.returns-in-Went-clause-cycles
returns-in-Went-clause-cycles g c =
    let v = c.args.grid.now.window in
    let bs = g.V.Windows.blocks v in
    let b = g.V.Windows.budget v in
    let here = seen (g.V.Windows.held v) c.args.grid.now.state in
    let h = c.goes_on.new.grid in
    eager_cycles g.W.Weather.next g.W.Weather.follows bs b here (seen (g.V.Windows.held h.window) h.state)
    (logged_eager g.W.Weather.next g.W.Weather.follows bs b here (seen (g.V.Windows.held h.window) h.state)
    c.args.log.now c.goes_on.new.log (returns-in-Went-clause-eager g c))

pub count_cycle-requires : goal.count_cycle-requires
count_cycle-requires g c =
    let v = c.args.grid.now.window in
    let x = c.ends.new.grid in
    let made = ends_cycles (g.V.Windows.blocks v) (g.V.Windows.budget v)
    (seen (g.V.Windows.held v) c.args.grid.now.state) (seen (g.V.Windows.held x.window) x.state)
    c.ends.ensures.change in
    let room = c.requires.cycles in
    omega (arith, made, room)

pub returns-in-Ended-clause-eager : goal.returns-in-Ended-clause-eager
returns-in-Ended-clause-eager g c =
    let v = c.args.grid.now.window in
    let bs = g.V.Windows.blocks v in
    let b = g.V.Windows.budget v in
    let here = seen (g.V.Windows.held v) c.args.grid.now.state in
    let x = c.ends.new.grid in
    let m = seen (g.V.Windows.held x.window) x.state in
    logged_last g.W.Weather.next g.W.Weather.follows bs b stepped.Ended here m
    (seen (g.V.Windows.held c.ends.new.grid.window) c.count_cycle.new.self) c.args.log.now c.ends.new.log
    c.ends.ensures.change
    c.in-Ended.ensures (subst (λ l. Logged l (ends_notes bs b here) c.ends.new.log) c.begin.ensures
    c.ends.ensures.told) (λ y e. record { ended = e; told = refl })
    (c.count_cycle.ensures (g.V.Windows.held x.window))

pub returns-in-Ended-clause-counted : goal.returns-in-Ended-clause-counted
returns-in-Ended-clause-counted g c =
    let v = c.args.grid.now.window in
    let bs = g.V.Windows.blocks v in
    let b = g.V.Windows.budget v in
    let here = seen (g.V.Windows.held v) c.args.grid.now.state in
    eager_counted g.W.Weather.next g.W.Weather.follows bs b here
    (seen (g.V.Windows.held c.ends.new.grid.window) c.count_cycle.new.self) c.requires.counted
    (logged_eager g.W.Weather.next g.W.Weather.follows bs b here
    (seen (g.V.Windows.held c.ends.new.grid.window) c.count_cycle.new.self)
    c.args.log.now c.ends.new.log (returns-in-Ended-clause-eager g c))

pub returns-in-Ended-clause-cycles : goal.returns-in-Ended-clause-cycles
returns-in-Ended-clause-cycles g c =
    let v = c.args.grid.now.window in
    let bs = g.V.Windows.blocks v in
    let b = g.V.Windows.budget v in
    let here = seen (g.V.Windows.held v) c.args.grid.now.state in
    eager_cycles g.W.Weather.next g.W.Weather.follows bs b here
    (seen (g.V.Windows.held c.ends.new.grid.window) c.count_cycle.new.self)
    (logged_eager g.W.Weather.next g.W.Weather.follows bs b here
    (seen (g.V.Windows.held c.ends.new.grid.window) c.count_cycle.new.self)
    c.args.log.now c.ends.new.log (returns-in-Ended-clause-eager g c))

pub count_cycle-requires-in-StackFull : goal.count_cycle-requires-in-StackFull
count_cycle-requires-in-StackFull g c =
    let v = c.args.grid.now.window in
    let x = c.ends.new.grid in
    let made = ends_cycles (g.V.Windows.blocks v) (g.V.Windows.budget v)
    (seen (g.V.Windows.held v) c.args.grid.now.state) (seen (g.V.Windows.held x.window) x.state)
    c.ends.ensures.change in
    let room = c.requires.cycles in
    omega (arith, made, room)

pub returns-in-StackFull-clause-eager : goal.returns-in-StackFull-clause-eager
returns-in-StackFull-clause-eager g c =
    let v = c.args.grid.now.window in
    let bs = g.V.Windows.blocks v in
    let b = g.V.Windows.budget v in
    let here = seen (g.V.Windows.held v) c.args.grid.now.state in
    let x = c.ends.new.grid in
    let m = seen (g.V.Windows.held x.window) x.state in
    logged_last g.W.Weather.next g.W.Weather.follows bs b stepped.StackFull here m
    (seen (g.V.Windows.held c.ends.new.grid.window) c.count_cycle-in-StackFull.new.self) c.args.log.now
    c.ends.new.log c.ends.ensures.change
    c.in-StackFull.ensures (subst (λ l. Logged l (ends_notes bs b here) c.ends.new.log) c.begin.ensures
    c.ends.ensures.told) (λ y e. record { ended = e; told = refl })
    (c.count_cycle-in-StackFull.ensures (g.V.Windows.held x.window))

pub returns-in-StackFull-clause-counted : goal.returns-in-StackFull-clause-counted
returns-in-StackFull-clause-counted g c =
    let v = c.args.grid.now.window in
    let bs = g.V.Windows.blocks v in
    let b = g.V.Windows.budget v in
    let here = seen (g.V.Windows.held v) c.args.grid.now.state in
    eager_counted g.W.Weather.next g.W.Weather.follows bs b here
    (seen (g.V.Windows.held c.ends.new.grid.window) c.count_cycle-in-StackFull.new.self) c.requires.counted
    (logged_eager g.W.Weather.next g.W.Weather.follows bs b here
    (seen (g.V.Windows.held c.ends.new.grid.window) c.count_cycle-in-StackFull.new.self)
    c.args.log.now c.ends.new.log (returns-in-StackFull-clause-eager g c))

pub returns-in-StackFull-clause-cycles : goal.returns-in-StackFull-clause-cycles
returns-in-StackFull-clause-cycles g c =
    let v = c.args.grid.now.window in
    let bs = g.V.Windows.blocks v in
    let b = g.V.Windows.budget v in
    let here = seen (g.V.Windows.held v) c.args.grid.now.state in
    eager_cycles g.W.Weather.next g.W.Weather.follows bs b here
    (seen (g.V.Windows.held c.ends.new.grid.window) c.count_cycle-in-StackFull.new.self)
    (logged_eager g.W.Weather.next g.W.Weather.follows bs b here
    (seen (g.V.Windows.held c.ends.new.grid.window) c.count_cycle-in-StackFull.new.self)
    c.args.log.now c.ends.new.log (returns-in-StackFull-clause-eager g c))

pub count_cycle-requires-in-Trap : goal.count_cycle-requires-in-Trap
count_cycle-requires-in-Trap g c =
    let v = c.args.grid.now.window in
    let x = c.ends.new.grid in
    let made = ends_cycles (g.V.Windows.blocks v) (g.V.Windows.budget v)
    (seen (g.V.Windows.held v) c.args.grid.now.state) (seen (g.V.Windows.held x.window) x.state)
    c.ends.ensures.change in
    let room = c.requires.cycles in
    omega (arith, made, room)

pub returns-in-Trap-clause-eager : goal.returns-in-Trap-clause-eager
returns-in-Trap-clause-eager g c =
    let v = c.args.grid.now.window in
    let bs = g.V.Windows.blocks v in
    let b = g.V.Windows.budget v in
    let here = seen (g.V.Windows.held v) c.args.grid.now.state in
    let x = c.ends.new.grid in
    let m = seen (g.V.Windows.held x.window) x.state in
    logged_last g.W.Weather.next g.W.Weather.follows bs b (stepped.Trap c.in-Trap.field-0) here m
    (seen (g.V.Windows.held c.ends.new.grid.window) c.count_cycle-in-Trap.new.self) c.args.log.now c.ends.new.log
    c.ends.ensures.change
    c.in-Trap.ensures (subst (λ l. Logged l (ends_notes bs b here) c.ends.new.log) c.begin.ensures
    c.ends.ensures.told) (λ y e. record { ended = e; told = refl })
    (c.count_cycle-in-Trap.ensures (g.V.Windows.held x.window))

pub returns-in-Trap-clause-counted : goal.returns-in-Trap-clause-counted
returns-in-Trap-clause-counted g c =
    let v = c.args.grid.now.window in
    let bs = g.V.Windows.blocks v in
    let b = g.V.Windows.budget v in
    let here = seen (g.V.Windows.held v) c.args.grid.now.state in
    eager_counted g.W.Weather.next g.W.Weather.follows bs b here
    (seen (g.V.Windows.held c.ends.new.grid.window) c.count_cycle-in-Trap.new.self) c.requires.counted
    (logged_eager g.W.Weather.next g.W.Weather.follows bs b here
    (seen (g.V.Windows.held c.ends.new.grid.window) c.count_cycle-in-Trap.new.self)
    c.args.log.now c.ends.new.log (returns-in-Trap-clause-eager g c))

pub returns-in-Trap-clause-cycles : goal.returns-in-Trap-clause-cycles
returns-in-Trap-clause-cycles g c =
    let v = c.args.grid.now.window in
    let bs = g.V.Windows.blocks v in
    let b = g.V.Windows.budget v in
    let here = seen (g.V.Windows.held v) c.args.grid.now.state in
    eager_cycles g.W.Weather.next g.W.Weather.follows bs b here
    (seen (g.V.Windows.held c.ends.new.grid.window) c.count_cycle-in-Trap.new.self)
    (logged_eager g.W.Weather.next g.W.Weather.follows bs b here
    (seen (g.V.Windows.held c.ends.new.grid.window) c.count_cycle-in-Trap.new.self)
    c.args.log.now c.ends.new.log (returns-in-Trap-clause-eager g c))
