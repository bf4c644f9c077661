use Rattle.std.proofs.Common.{refl, sym}
use Rattle.grid_parts.specs.Seen.{seen}
use Rattle.grid_machine.proofs.CallFacts.{cycles_going, cycles_stopped, no_cycle, one_cycle}
use Rattle.grid_machine.proofs.runs.cycle_going.Goals as goal

pub returns-then-is_going-clause-change : goal.returns-then-is_going-clause-change
returns-then-is_going-clause-change g c =
    let v = c.args.grid.now.window in
    let w = c.cycle.new.grid.window in
    one_cycle g.W.Weather.next g.W.Weather.follows (g.V.Windows.blocks v) c.args.budget (g.V.Windows.budget v)
    (seen (g.V.Windows.held v) c.args.grid.now.state) (seen (g.V.Windows.held w) c.cycle.new.grid.state)
    c.requires.budget (sym c.if-is_going.ensures) c.cycle.ensures.eager

pub returns-then-is_going-clause-cycles : goal.returns-then-is_going-clause-cycles
returns-then-is_going-clause-cycles g c =
    cycles_going c.args.budget (g.V.Windows.held c.args.grid.now.window) c.args.grid.now.state.counts.cycles
    c.cycle.new.grid.state.counts.cycles (sym c.if-is_going.ensures) c.cycle.ensures.cycles

pub returns-else-is_going-clause-change : goal.returns-else-is_going-clause-change
returns-else-is_going-clause-change g c =
    let v = c.args.grid.now.window in
    let here = seen (g.V.Windows.held v) c.args.grid.now.state in
    no_cycle g.W.Weather.next g.W.Weather.follows (g.V.Windows.blocks v) c.args.budget here here
    (sym c.if-is_going.ensures) refl

pub returns-else-is_going-clause-cycles : goal.returns-else-is_going-clause-cycles
returns-else-is_going-clause-cycles g c =
    cycles_stopped c.args.budget (g.V.Windows.held c.args.grid.now.window) c.args.grid.now.state.counts.cycles
    (sym c.if-is_going.ensures)
