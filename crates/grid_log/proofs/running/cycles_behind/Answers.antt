use Rattle.std.proofs.Common.{◌∙◌, arith}
use Rattle.grid_parts.specs.Seen.{seen}
use Rattle.grid_log.proofs.RunFacts.{window_of}
use Rattle.grid_log.proofs.running.cycles_behind.Goals as goal

pub returns-clause-run : goal.returns-clause-run
returns-clause-run g c =
    let v = c.args.grid.now.window in
    let m = c.pass.new.grid in
    let h = c.cycles.new.grid in
    window_of g.W.Weather.next g.W.Weather.follows (g.V.Windows.blocks v) c.args.budget (g.V.Windows.blocks m.window)
    c.args.before c.pass.result c.cycles.result (seen (g.V.Windows.held v) c.args.grid.now.state)
    (seen (g.V.Windows.held m.window) m.state) (seen (g.V.Windows.held h.window) h.state) c.args.log.now
    c.cycles.new.log c.pass.ensures.image c.pass.ensures.run c.pass.ensures.full c.cycles.ensures.run
