use Rattle.std.proofs.Common.{◌≡◌, ◌||◌, is_none, ap, ◌∙◌, subst}
use Rattle.grid_cycle.specs.Engines.{blocks_of, grid_of}
use Rattle.grid_cycle.specs.Nexts.{is_busy, next_firing, ready_entry}
use Rattle.grid_cycle.proofs.grid.Grid.ready.Goals as goal

pub returns : goal.returns
returns g c = record {
  value = c.next_firing.ensures.value
      ∙ ap (λ x. next_firing (blocks_of x) x.window.budget c.args.tile (grid_of x)) c.self.view_is;
  none = subst (λ x. is_none c.next_firing.result ≡ (is_busy c.args.tile (grid_of x)
      || is_none (ready_entry (blocks_of x) x.window.budget c.args.tile (grid_of x)))) c.self.view_is
      c.next_firing.ensures.none;
}
