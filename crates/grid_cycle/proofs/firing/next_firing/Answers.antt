use Rattle.std.proofs.Common.{sym, ◌∙◌}
use Rattle.grid_parts.specs.Seen.{seen}
use Rattle.grid_cycle.proofs.FiringFacts.{firing_busy, firing_free, none_exact}
use Rattle.grid_cycle.proofs.firing.next_firing.Goals as goal

pub returns-then-busy-eq0 : goal.returns-then-busy-eq0
returns-then-busy-eq0 g c =
    let x = c.args.grid.now in
    let here = seen (g.V.Windows.held x.window) x.state in
    let is = c.ready_firing.ensures
    ∙ firing_free (g.V.Windows.blocks x.window) (g.V.Windows.budget x.window) c.args.tile
    here (sym c.busy.ensures ∙ c.if-busy-eq0.true) in
    record {
      value = is;
      none = none_exact (g.V.Windows.blocks x.window) (g.V.Windows.budget x.window) c.args.tile here _ is;
    }

pub returns-else-busy-eq0 : goal.returns-else-busy-eq0
returns-else-busy-eq0 g c =
    let x = c.args.grid.now in
    let here = seen (g.V.Windows.held x.window) x.state in
    let is = firing_busy (g.V.Windows.blocks x.window) (g.V.Windows.budget x.window) c.args.tile here
    (λ e. c.if-busy-eq0.false (c.busy.ensures ∙ e)) in
    record {
      value = is;
      none = none_exact (g.V.Windows.blocks x.window) (g.V.Windows.budget x.window) c.args.tile here _ is;
    }
