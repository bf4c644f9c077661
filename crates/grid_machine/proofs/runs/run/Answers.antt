use Rattle.std.proofs.Common.{◌≡◌, ◌-◌, subst, arith}
use Rattle.grid_parts.specs.Seen.{seen}
use Rattle.grid_machine.specs.WholeRuns.{GoesFor}
use Rattle.grid_machine.proofs.CallFacts.{is_run, none_made, on_before, rest_same}
use Rattle.grid_machine.proofs.runs.run.Goals as goal

pub cycles-requires-clause-cycles : goal.cycles-requires-clause-cycles
cycles-requires-clause-cycles g c =
    let more = c.saturating_sub-more.ensures in
    let room = c.requires.cycles in
    let most = c.requires.most in
    omega (arith, more, room, most)

pub finish-requires-clause-cycles : goal.finish-requires-clause-cycles
finish-requires-clause-cycles g c =
    let more = c.saturating_sub-more.ensures in
    let room = c.requires.cycles in
    let most = c.requires.most in
    let made = c.cycles.ensures.cycles in
    let few = c.cycles.ensures.few in
    omega (arith, more, room, most, made, few)

pub returns-clause-run : goal.returns-clause-run
returns-clause-run g c =
    let v = c.args.grid.now.window in
    let x = c.cycles.new.grid in
    let y = c.finish.new.grid in
    let here = seen (g.V.Windows.held v) c.args.grid.now.state in
    let mid = seen (g.V.Windows.held x.window) x.state in
    let made = c.cycles.ensures.cycles in
    let same = c.finish.ensures.cycles in
    let n : c.cycles.result ≡ y.state.counts.cycles - c.args.grid.now.state.counts.cycles =
    omega (arith, made, same) in
    is_run g.W.Weather.next g.W.Weather.follows (g.V.Windows.blocks v) c.args.budget
    (y.state.counts.cycles - c.args.grid.now.state.counts.cycles) here mid
    (seen (g.V.Windows.held y.window) y.state)
    (subst (λ k. GoesFor g.W.Weather.next g.W.Weather.follows (g.V.Windows.blocks v) c.args.budget k here mid) n
    c.cycles.ensures.change) c.finish.ensures.change

pub returns-clause-same : goal.returns-clause-same
returns-clause-same g c = λ off.
    let v = c.args.grid.now.window in
    let x = c.cycles.new.grid in
    let y = c.finish.new.grid in
    let here = seen (g.V.Windows.held v) c.args.grid.now.state in
    let mid = seen (g.V.Windows.held x.window) x.state in
    rest_same c.args.budget here mid (seen (g.V.Windows.held y.window) y.state) c.requires.kept
    (none_made g.W.Weather.next g.W.Weather.follows (g.V.Windows.blocks v) c.args.budget c.cycles.result here mid off
    c.cycles.ensures.change) off c.finish.ensures.change

pub returns-clause-full : goal.returns-clause-full
returns-clause-full g c = λ on.
    let x = c.cycles.new.grid in
    let y = c.finish.new.grid in
    let all = c.cycles.ensures.full (on_before c.args.budget (seen (g.V.Windows.held x.window) x.state)
    (seen (g.V.Windows.held y.window) y.state) c.finish.ensures.change on) in
    let more = c.saturating_sub-more.ensures in
    let made = c.cycles.ensures.cycles in
    let same = c.finish.ensures.cycles in
    omega (arith, all, more, made, same)

pub returns-clause-few : goal.returns-clause-few
returns-clause-few g c = λ le.
    let more = c.saturating_sub-more.ensures in
    let few = c.cycles.ensures.few in
    let made = c.cycles.ensures.cycles in
    let same = c.finish.ensures.cycles in
    omega (arith, le, few, more, made, same)

pub returns-clause-more : goal.returns-clause-more
returns-clause-more g c =
    let made = c.cycles.ensures.cycles in
    let same = c.finish.ensures.cycles in
    omega (arith, made, same)
