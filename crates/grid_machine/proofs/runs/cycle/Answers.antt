use Rattle.std.proofs.Common.{◌∙◌, arith}
use Rattle.grid_parts.specs.Seen.{seen}
use Rattle.grid_machine.specs.WholeRuns.{going_cycles}
use Rattle.grid_machine.proofs.CallFacts.{going_few, is_run, none_made, rest_same}
use Rattle.grid_machine.proofs.runs.cycle.Goals as goal

pub finish-requires-clause-cycles : goal.finish-requires-clause-cycles
finish-requires-clause-cycles g c =
    let few = going_few c.args.budget (g.V.Windows.held c.args.grid.now.window) in
    let made = c.cycle_going.ensures.cycles in
    let room = c.requires.cycles in
    omega (arith, few, made, room)

pub returns-clause-run : goal.returns-clause-run
returns-clause-run g c =
    let v = c.args.grid.now.window in
    let x = c.cycle_going.new.grid in
    let y = c.finish.new.grid in
    is_run g.W.Weather.next g.W.Weather.follows (g.V.Windows.blocks v) c.args.budget
    (going_cycles c.args.budget (g.V.Windows.held v)) (seen (g.V.Windows.held v) c.args.grid.now.state)
    (seen (g.V.Windows.held x.window) x.state) (seen (g.V.Windows.held y.window) y.state)
    c.cycle_going.ensures.change c.finish.ensures.change

pub returns-clause-same : goal.returns-clause-same
returns-clause-same g c = λ off.
    let v = c.args.grid.now.window in
    let x = c.cycle_going.new.grid in
    let y = c.finish.new.grid in
    let here = seen (g.V.Windows.held v) c.args.grid.now.state in
    let mid = seen (g.V.Windows.held x.window) x.state in
    rest_same c.args.budget here mid (seen (g.V.Windows.held y.window) y.state) c.requires.kept
    (none_made g.W.Weather.next g.W.Weather.follows (g.V.Windows.blocks v) c.args.budget
    (going_cycles c.args.budget (g.V.Windows.held v)) here mid off c.cycle_going.ensures.change) off
    c.finish.ensures.change

pub returns-clause-cycles : goal.returns-clause-cycles
returns-clause-cycles g c = c.finish.ensures.cycles ∙ c.cycle_going.ensures.cycles
