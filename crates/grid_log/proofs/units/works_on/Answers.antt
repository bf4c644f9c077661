use Rattle.std.proofs.Common.{◌≡◌, [], refl, sym, ap, ap₂, subst, ◌∙◌, add-one, arith}
use Rattle.grid_cycle_spec.specs.Choosing.{each}
use Rattle.grid_cycle_spec.specs.Units.{unit_turn}
use Rattle.grid_events.specs.Turns.{of_each}
use Rattle.grid_events.specs.UnitNotes.{turn_notes}
use Rattle.grid_parts.specs.Seen.{seen}
use Rattle.grid_log.specs.Logs.{Logged}
use Rattle.grid_log.proofs.Logging.{logged_none}
use Rattle.grid_log.proofs.Turning.{each_logged, same_logged}
use Rattle.grid_log.proofs.units.works_on.Goals as goal

pub loop-tile-init : goal.loop-tile-init
loop-tile-init g c = record {
  change = refl;
  told = logged_none c.args.log.now [] (λ s. refl);
  image = refl;
  budget = refl;
}

pub loop-tile-preserved : goal.loop-tile-preserved
loop-tile-preserved g c =
    let v = c.args.grid.now.window in
    let bs = g.V.Windows.blocks v in
    let b = g.V.Windows.budget v in
    let start = seen (g.V.Windows.held v) c.args.grid.now.state in
    let now = seen (g.V.Windows.held c.loop-tile.grid.window) c.loop-tile.grid.state in
    record {
      change = c.unit_turn.ensures.change
          ∙ ap₂ (λ i j. unit_turn i j c.loop-tile.tile now) c.loop-tile.invariant.image c.loop-tile.invariant.budget
          ∙ ap (unit_turn bs b c.loop-tile.tile) c.loop-tile.invariant.change
          ∙ ap (λ n. each (unit_turn bs b) n start) (sym (add-one c.loop-tile.tile));
      told = each_logged (unit_turn bs b) (turn_notes bs b) c.loop-tile.tile start now c.args.log.now
          c.loop-tile.log
          c.unit_turn.new.log c.loop-tile.invariant.change c.loop-tile.invariant.told
          (same_logged (λ i j. turn_notes i j c.loop-tile.tile now) _ bs _ b c.loop-tile.log c.unit_turn.new.log
          c.loop-tile.invariant.image c.loop-tile.invariant.budget c.unit_turn.ensures.told);
      image = c.unit_turn.ensures.image ∙ c.loop-tile.invariant.image;
      budget = c.unit_turn.ensures.budget ∙ c.loop-tile.invariant.budget;
    }

pub returns-clause-change : goal.returns-clause-change
returns-clause-change g c =
    let v = c.args.grid.now.window in
    let all : c.loop-tile.tile ≡ 16 = omega arith in
    c.loop-tile.invariant.change
    ∙ ap (λ n. each (unit_turn (g.V.Windows.blocks v) (g.V.Windows.budget v)) n
    (seen (g.V.Windows.held v) c.args.grid.now.state)) all

pub returns-clause-told : goal.returns-clause-told
returns-clause-told g c =
    let v = c.args.grid.now.window in
    let all : c.loop-tile.tile ≡ 16 = omega arith in
    subst (λ n. Logged c.args.log.now (of_each (unit_turn (g.V.Windows.blocks v) (g.V.Windows.budget v))
    (turn_notes (g.V.Windows.blocks v) (g.V.Windows.budget v)) n
    (seen (g.V.Windows.held v) c.args.grid.now.state)) c.loop-tile.log) all c.loop-tile.invariant.told
