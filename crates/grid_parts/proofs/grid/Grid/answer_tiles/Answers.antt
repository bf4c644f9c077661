use Rattle.std.proofs.Common.{sym, ap, ap₂, ◌∙◌, add-one, arith}
use Rattle.grid_cycle_spec.specs.Choosing.{each}
use Rattle.grid_cycle_spec.specs.DataTiles.{data_turn}
use Rattle.grid_parts.specs.Seen.{seen}
use Rattle.grid_parts.proofs.grid.Grid.answer_tiles.Goals as goal

pub loop-tile-preserved : goal.loop-tile-preserved
loop-tile-preserved g c =
    let v = c.args.self.now.window in
    let start = seen (g.V.Windows.held v) c.args.self.now.state in
    let one = c.data_turn.ensures.few in
    let before = c.loop-tile.invariant.few in
    record {
      change = c.data_turn.ensures.change
          ∙ ap₂ (λ bs b. data_turn bs b c.loop-tile.tile
          (seen (g.V.Windows.held c.loop-tile.self.window) c.loop-tile.self.state))
          c.loop-tile.invariant.image c.loop-tile.invariant.budget
          ∙ ap (data_turn (g.V.Windows.blocks v) (g.V.Windows.budget v) c.loop-tile.tile) c.loop-tile.invariant.change
          ∙ ap (λ n. each (data_turn (g.V.Windows.blocks v) (g.V.Windows.budget v)) n start)
          (sym (add-one c.loop-tile.tile));
      few = omega (arith, one, before);
      image = c.data_turn.ensures.image ∙ c.loop-tile.invariant.image;
      budget = c.data_turn.ensures.budget ∙ c.loop-tile.invariant.budget;
    }
