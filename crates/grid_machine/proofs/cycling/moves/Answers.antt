use Rattle.std.proofs.Common.{sym, ap, ◌∙◌, arith}
use Rattle.operand_net.specs.Places.{at}
use Rattle.grid_cycle_spec.specs.Grid.{numbers_of}
use Rattle.grid_cycle_spec.specs.inside.Arrivals.{arrivals}
use Rattle.grid_cycle_spec.specs.Cycles.{counted}
use Rattle.grid_parts.specs.Seen.{seen}
use Rattle.grid_machine.proofs.Eagerness.{ticked_named}
use Rattle.grid_machine.proofs.Rooms.{arrivals_cycles}
use Rattle.grid_machine.proofs.cycling.moves.Goals as goal

pub arrivals-requires-clause-room : goal.arrivals-requires-clause-room
arrivals-requires-clause-room g c =
    let w = g.V.Windows.held c.args.grid.now.window in
    let same = ap (λ x. x.counts.flushed) (c.tick.ensures.change w) in
    let room = c.requires.flushed in
    omega (arith, same, room)

pub count_cycle-requires : goal.count_cycle-requires
count_cycle-requires g c =
    let v = c.args.grid.now.window in
    let w = g.V.Windows.held v in
    let same = ap (λ x. x.counts.cycles) (c.tick.ensures.change w) in
    let after = c.arrivals.new.grid in
    let kept = arrivals_cycles (g.V.Windows.blocks v) (g.V.Windows.budget v) c.as_slice-2.result.now
    (seen w c.tick.new.self) (seen (g.V.Windows.held after.window) after.state) c.arrivals.ensures.change in
    let room = c.requires.cycles in
    omega (arith, same, kept, room)

pub returns-clause-change : goal.returns-clause-change
returns-clause-change g c =
    let v = c.args.grid.now.window in
    let w = g.V.Windows.held v in
    let bs = g.V.Windows.blocks v in
    let b = g.V.Windows.budget v in
    let s = c.tick.new.self in
    let old = c.args.grid.now.state in
    let named = sym (c.as_slice.ensures.value ∙ c.numbers-frames.ensures.value) in
    record {
      parcels = at s.mesh;
      weather = s.weather;
      ticked = ticked_named g.W.Weather.next g.W.Weather.follows w.frames _ (at old.mesh) (at s.mesh) old.weather
          s.weather named c.tick.ensures.ticked;
      arrived = c.count_cycle.ensures (g.V.Windows.held c.arrivals.new.grid.window)
          ∙ ap counted (c.arrivals.ensures.change
          ∙ ap (λ l. arrivals bs b l (seen w s)) (c.as_slice-2.ensures.value ∙ c.numbers-frames.ensures.value)
          ∙ ap (arrivals bs b (numbers_of w.frames)) (c.tick.ensures.change w));
    }
