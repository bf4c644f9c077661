use Rattle.std.proofs.Common.{arith}
use Rattle.trips_isa.specs.declared.run.Stepped.TheVariants as stepped
use Rattle.grid_parts.specs.Seen.{seen}
use Rattle.grid_machine.proofs.Eagerness.{eager_by, moves_by}
use Rattle.grid_machine.proofs.Rooms.{ends_counted, ends_cycles, eager_counted, eager_cycles}
use Rattle.grid_machine.proofs.cycling.cycle.Goals as goal

pub ends-requires-clause-committed : goal.ends-requires-clause-committed
ends-requires-clause-committed g c =
    let adds = c.requires.counted.adds in
    let few = c.requires.counted.fetched in
    let room = c.requires.cycles in
    omega (arith, adds, few, room)

pub ends-requires-clause-flushed : goal.ends-requires-clause-flushed
ends-requires-clause-flushed g c =
    let adds = c.requires.counted.adds in
    let few = c.requires.counted.fetched in
    let room = c.requires.cycles in
    omega (arith, adds, few, room)

pub goes_on-requires-clause-counted : goal.goes_on-requires-clause-counted
goes_on-requires-clause-counted g c =
    let v = c.args.grid.now.window in
    let x = c.ends.new.self in
    ends_counted (g.V.Windows.blocks v) (g.V.Windows.budget v) (seen (g.V.Windows.held v) c.args.grid.now.state)
    (seen (g.V.Windows.held x.window) x.state) c.ends.ensures.change c.requires.counted

pub goes_on-requires-clause-cycles : goal.goes_on-requires-clause-cycles
goes_on-requires-clause-cycles g c =
    let v = c.args.grid.now.window in
    let x = c.ends.new.self in
    let made = ends_cycles (g.V.Windows.blocks v) (g.V.Windows.budget v)
    (seen (g.V.Windows.held v) c.args.grid.now.state) (seen (g.V.Windows.held x.window) x.state)
    c.ends.ensures.change in
    let room = c.requires.cycles in
    omega (arith, made, room)

pub returns-in-Went-clause-eager : goal.returns-in-Went-clause-eager
returns-in-Went-clause-eager g c =
    let v = c.args.grid.now.window in
    let bs = g.V.Windows.blocks v in
    let b = g.V.Windows.budget v in
    let x = c.ends.new.self in
    let h = c.goes_on.new.grid in
    let m = seen (g.V.Windows.held x.window) x.state in
    let after = seen (g.V.Windows.held h.window) h.state in
    eager_by g.W.Weather.next g.W.Weather.follows bs b stepped.Went
    (seen (g.V.Windows.held v) c.args.grid.now.state) m
    after c.ends.ensures.change c.in-Went.ensures
    (moves_by g.W.Weather.next g.W.Weather.follows bs b (g.V.Windows.blocks x.window) (g.V.Windows.budget x.window) m
    after c.ends.ensures.image c.ends.ensures.budget c.goes_on.ensures.change)

pub returns-in-Went-clause-cycles : goal.returns-in-Went-clause-cycles
returns-in-Went-clause-cycles g c =
    let v = c.args.grid.now.window in
    let h = c.goes_on.new.grid in
    eager_cycles g.W.Weather.next g.W.Weather.follows (g.V.Windows.blocks v) (g.V.Windows.budget v)
    (seen (g.V.Windows.held v) c.args.grid.now.state) (seen (g.V.Windows.held h.window) h.state)
    (returns-in-Went-clause-eager g c)

pub count_cycle-requires : goal.count_cycle-requires
count_cycle-requires g c =
    let v = c.args.grid.now.window in
    let x = c.ends.new.self in
    let made = ends_cycles (g.V.Windows.blocks v) (g.V.Windows.budget v)
    (seen (g.V.Windows.held v) c.args.grid.now.state) (seen (g.V.Windows.held x.window) x.state)
    c.ends.ensures.change in
    let room = c.requires.cycles in
    omega (arith, made, room)

pub returns-in-Ended-clause-eager : goal.returns-in-Ended-clause-eager
returns-in-Ended-clause-eager g c =
    let v = c.args.grid.now.window in
    let x = c.ends.new.self in
    let w = g.V.Windows.held x.window in
    eager_by g.W.Weather.next g.W.Weather.follows (g.V.Windows.blocks v) (g.V.Windows.budget v) stepped.Ended
    (seen (g.V.Windows.held v) c.args.grid.now.state) (seen w x.state) (seen w c.count_cycle.new.self)
    c.ends.ensures.change c.in-Ended.ensures (c.count_cycle.ensures w)

pub returns-in-Ended-clause-counted : goal.returns-in-Ended-clause-counted
returns-in-Ended-clause-counted g c =
    let v = c.args.grid.now.window in
    eager_counted g.W.Weather.next g.W.Weather.follows (g.V.Windows.blocks v) (g.V.Windows.budget v)
    (seen (g.V.Windows.held v) c.args.grid.now.state)
    (seen (g.V.Windows.held c.ends.new.self.window) c.count_cycle.new.self) c.requires.counted
    (returns-in-Ended-clause-eager g c)

pub returns-in-Ended-clause-cycles : goal.returns-in-Ended-clause-cycles
returns-in-Ended-clause-cycles g c =
    let v = c.args.grid.now.window in
    eager_cycles g.W.Weather.next g.W.Weather.follows (g.V.Windows.blocks v) (g.V.Windows.budget v)
    (seen (g.V.Windows.held v) c.args.grid.now.state)
    (seen (g.V.Windows.held c.ends.new.self.window) c.count_cycle.new.self)
    (returns-in-Ended-clause-eager g c)

pub count_cycle-requires-in-StackFull : goal.count_cycle-requires-in-StackFull
count_cycle-requires-in-StackFull g c =
    let v = c.args.grid.now.window in
    let x = c.ends.new.self in
    let made = ends_cycles (g.V.Windows.blocks v) (g.V.Windows.budget v)
    (seen (g.V.Windows.held v) c.args.grid.now.state) (seen (g.V.Windows.held x.window) x.state)
    c.ends.ensures.change in
    let room = c.requires.cycles in
    omega (arith, made, room)

pub returns-in-StackFull-clause-eager : goal.returns-in-StackFull-clause-eager
returns-in-StackFull-clause-eager g c =
    let v = c.args.grid.now.window in
    let x = c.ends.new.self in
    let w = g.V.Windows.held x.window in
    eager_by g.W.Weather.next g.W.Weather.follows (g.V.Windows.blocks v) (g.V.Windows.budget v) stepped.StackFull
    (seen (g.V.Windows.held v) c.args.grid.now.state) (seen w x.state) (seen w c.count_cycle-in-StackFull.new.self)
    c.ends.ensures.change c.in-StackFull.ensures (c.count_cycle-in-StackFull.ensures w)

pub returns-in-StackFull-clause-counted : goal.returns-in-StackFull-clause-counted
returns-in-StackFull-clause-counted g c =
    let v = c.args.grid.now.window in
    eager_counted g.W.Weather.next g.W.Weather.follows (g.V.Windows.blocks v) (g.V.Windows.budget v)
    (seen (g.V.Windows.held v) c.args.grid.now.state)
    (seen (g.V.Windows.held c.ends.new.self.window) c.count_cycle-in-StackFull.new.self) c.requires.counted
    (returns-in-StackFull-clause-eager g c)

pub returns-in-StackFull-clause-cycles : goal.returns-in-StackFull-clause-cycles
returns-in-StackFull-clause-cycles g c =
    let v = c.args.grid.now.window in
    eager_cycles g.W.Weather.next g.W.Weather.follows (g.V.Windows.blocks v) (g.V.Windows.budget v)
    (seen (g.V.Windows.held v) c.args.grid.now.state)
    (seen (g.V.Windows.held c.ends.new.self.window) c.count_cycle-in-StackFull.new.self)
    (returns-in-StackFull-clause-eager g c)

pub count_cycle-requires-in-Trap : goal.count_cycle-requires-in-Trap
count_cycle-requires-in-Trap g c =
    let v = c.args.grid.now.window in
    let x = c.ends.new.self in
    let made = ends_cycles (g.V.Windows.blocks v) (g.V.Windows.budget v)
    (seen (g.V.Windows.held v) c.args.grid.now.state) (seen (g.V.Windows.held x.window) x.state)
    c.ends.ensures.change in
    let room = c.requires.cycles in
    omega (arith, made, room)

pub returns-in-Trap-clause-eager : goal.returns-in-Trap-clause-eager
returns-in-Trap-clause-eager g c =
    let v = c.args.grid.now.window in
    let x = c.ends.new.self in
    let w = g.V.Windows.held x.window in
    eager_by g.W.Weather.next g.W.Weather.follows (g.V.Windows.blocks v) (g.V.Windows.budget v)
    (stepped.Trap c.in-Trap.field-0)
    (seen (g.V.Windows.held v) c.args.grid.now.state) (seen w x.state) (seen w c.count_cycle-in-Trap.new.self)
    c.ends.ensures.change c.in-Trap.ensures (c.count_cycle-in-Trap.ensures w)

pub returns-in-Trap-clause-counted : goal.returns-in-Trap-clause-counted
returns-in-Trap-clause-counted g c =
    let v = c.args.grid.now.window in
    eager_counted g.W.Weather.next g.W.Weather.follows (g.V.Windows.blocks v) (g.V.Windows.budget v)
    (seen (g.V.Windows.held v) c.args.grid.now.state)
    (seen (g.V.Windows.held c.ends.new.self.window) c.count_cycle-in-Trap.new.self) c.requires.counted
    (returns-in-Trap-clause-eager g c)

pub returns-in-Trap-clause-cycles : goal.returns-in-Trap-clause-cycles
returns-in-Trap-clause-cycles g c =
    let v = c.args.grid.now.window in
    eager_cycles g.W.Weather.next g.W.Weather.follows (g.V.Windows.blocks v) (g.V.Windows.budget v)
    (seen (g.V.Windows.held v) c.args.grid.now.state)
    (seen (g.V.Windows.held c.ends.new.self.window) c.count_cycle-in-Trap.new.self)
    (returns-in-Trap-clause-eager g c)
