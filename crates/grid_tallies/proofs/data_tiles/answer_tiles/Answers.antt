use Rattle.std.proofs.Common.{◌≡◌, [], refl, sym, ap, ap₂, subst, ◌∙◌, add-one, arith}
use Rattle.grid_cycle_spec.specs.Choosing.{each}
use Rattle.grid_cycle_spec.specs.DataTiles.{data_turn}
use Rattle.grid_events.specs.StationNotes.{data_notes}
use Rattle.grid_events.specs.Turns.{of_each}
use Rattle.grid_parts.specs.Seen.{seen}
use Rattle.grid_tallies.specs.Statistics.{Heard}
use Rattle.grid_tallies.proofs.Tallying.{heard_none}
use Rattle.grid_tallies.proofs.Answering.{each_heard, same_heard}
use Rattle.grid_tallies.proofs.data_tiles.answer_tiles.Goals as goal

pub loop-tile-init : goal.loop-tile-init
loop-tile-init g c = record {
  change = refl;
  heard = heard_none c.args.told.now [] (λ s. refl);
  few = omega arith;
  image = refl;
  budget = refl;
}

pub loop-tile-preserved : goal.loop-tile-preserved
loop-tile-preserved g c =
    let v = c.args.grid.now.window in
    let bs = g.V.Windows.blocks v in
    let b = g.V.Windows.budget v in
    let start = seen (g.V.Windows.held v) c.args.grid.now.state in
    let now = seen (g.V.Windows.held c.loop-tile.grid.window) c.loop-tile.grid.state in
    let one = c.data_turn.ensures.few in
    let before = c.loop-tile.invariant.few in
    record {
      change = c.data_turn.ensures.change
          ∙ ap₂ (λ i j. data_turn i j c.loop-tile.tile now) c.loop-tile.invariant.image c.loop-tile.invariant.budget
          ∙ ap (data_turn bs b c.loop-tile.tile) c.loop-tile.invariant.change
          ∙ ap (λ n. each (data_turn bs b) n start) (sym (add-one c.loop-tile.tile));
      heard = each_heard (data_turn bs b) (data_notes bs b) c.loop-tile.tile start now c.args.told.now
          c.loop-tile.told
          c.data_turn.new.told c.loop-tile.invariant.change c.loop-tile.invariant.heard
          (same_heard (λ i j. data_notes i j c.loop-tile.tile now) _ bs _ b c.loop-tile.told c.data_turn.new.told
          c.loop-tile.invariant.image c.loop-tile.invariant.budget c.data_turn.ensures.heard);
      few = omega (arith, one, before);
      image = c.data_turn.ensures.image ∙ c.loop-tile.invariant.image;
      budget = c.data_turn.ensures.budget ∙ c.loop-tile.invariant.budget;
    }

pub returns-clause-heard : goal.returns-clause-heard
returns-clause-heard g c =
    let v = c.args.grid.now.window in
    let all : c.loop-tile.tile ≡ 4 = omega arith in
    subst (λ n. Heard c.args.told.now (of_each (data_turn (g.V.Windows.blocks v) (g.V.Windows.budget v))
    (data_notes (g.V.Windows.blocks v) (g.V.Windows.budget v)) n
    (seen (g.V.Windows.held v) c.args.grid.now.state)) c.loop-tile.told) all c.loop-tile.invariant.heard
