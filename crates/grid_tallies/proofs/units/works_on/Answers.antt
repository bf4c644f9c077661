use Rattle.std.proofs.Common.{◌≡◌, ◌==◌, cond, [], refl, sym, ap, ap₂, subst, ◌∙◌, add-one, arith}
use Rattle.grid_cycle_spec.specs.Choosing.{each}
use Rattle.grid_cycle_spec.specs.Units.{issues, unit_turn}
use Rattle.grid_events.specs.Turns.{of_each}
use Rattle.grid_events.specs.UnitNotes.{issues_notes, turn_notes}
use Rattle.grid_parts.specs.Seen.{seen}
use Rattle.grid_parts.proofs.MarkedFacts.{slots_kept, slots_moved}
use Rattle.grid_tallies.specs.declared.statistic.Statistic.TheVariants as statistic
use Rattle.grid_tallies.specs.Statistics.{Heard}
use Rattle.grid_tallies.specs.inside.Adding.{Adds}
use Rattle.grid_tallies.proofs.Tallying.{heard_none}
use Rattle.grid_tallies.proofs.Answering.{each_heard, same_heard}
use Rattle.grid_tallies.proofs.Turning.{turn_heard}
use Rattle.grid_tallies.proofs.units.works_on.Goals as goal

pub loop-tile-init : goal.loop-tile-init
loop-tile-init g c = record {
  change = refl;
  heard = heard_none c.args.told.now [] (λ s. refl);
  image = refl;
  budget = refl;
  marked = c.marked_slots-marks.ensures;
}

pub issues_marked-requires-clause-marked : goal.issues_marked-requires-clause-marked
issues_marked-requires-clause-marked g c =
    let same = c.unit_on.ensures.same in
    slots_moved _ _ _ _ _ _ c.marked_slots-marks.result (ap g.V.Windows.blocks same) (ap g.V.Windows.budget same)
    (ap g.V.Windows.held same) c.loop-tile.invariant.marked

pub loop-tile-preserved : goal.loop-tile-preserved
loop-tile-preserved g c =
    let v = c.args.grid.now.window in
    let bs = g.V.Windows.blocks v in
    let b = g.V.Windows.budget v in
    let tile = c.loop-tile.tile in
    let start = seen (g.V.Windows.held v) c.args.grid.now.state in
    let now = seen (g.V.Windows.held c.loop-tile.grid.window) c.loop-tile.grid.state in
    let same = c.unit_on.ensures.same in
    let u = c.unit_on.new.self in
    let mid = seen (g.V.Windows.held u.window) u.state in
    let image = ap g.V.Windows.blocks same in
    let budget = ap g.V.Windows.budget same in
    record {
      change = c.issues_marked.ensures.change
          ∙ ap₂ (λ i j. issues i j tile mid) (image ∙ c.loop-tile.invariant.image)
          (budget ∙ c.loop-tile.invariant.budget)
          ∙ ap (issues bs b tile) c.unit_on.ensures.change
          ∙ ap (unit_turn bs b tile) c.loop-tile.invariant.change
          ∙ ap (λ n. each (unit_turn bs b) n start) (sym (add-one tile));
      heard = each_heard (unit_turn bs b) (turn_notes bs b) tile start now c.args.told.now c.loop-tile.told
          c.issues_marked.new.told c.loop-tile.invariant.change c.loop-tile.invariant.heard
          (turn_heard bs b tile now c.loop-tile.told c.issues_marked.new.told c.count_work.new.told
          c.count_given.new.told mid c.unit_on.ensures.change
          (subst (λ n. Adds (statistic.Station tile) (cond (n == 0) 0 1) c.loop-tile.told c.count_work.new.told)
          c.busy.ensures c.count_work.ensures)
          (subst (λ n. Adds statistic.Parcels n c.count_work.new.told c.count_given.new.told) c.given.ensures
          c.count_given.ensures)
          (same_heard (λ i j. issues_notes i j tile mid) _ bs _ b c.count_given.new.told c.issues_marked.new.told
          (image ∙ c.loop-tile.invariant.image) (budget ∙ c.loop-tile.invariant.budget)
          c.issues_marked.ensures.heard));
      image = c.issues_marked.ensures.image ∙ image ∙ c.loop-tile.invariant.image;
      budget = c.issues_marked.ensures.budget ∙ budget ∙ c.loop-tile.invariant.budget;
      marked = slots_moved _ _ _ _ _ _ c.marked_slots-marks.result c.issues_marked.ensures.image
          c.issues_marked.ensures.budget (ap (λ x. x.window) c.issues_marked.ensures.change)
          (slots_kept (g.V.Windows.blocks u.window) (g.V.Windows.budget u.window) tile mid
          c.marked_slots-marks.result
          (slots_moved _ _ _ _ _ _ c.marked_slots-marks.result image budget (ap g.V.Windows.held same)
          c.loop-tile.invariant.marked));
    }

pub returns-clause-change : goal.returns-clause-change
returns-clause-change g c =
    let v = c.args.grid.now.window in
    let all : c.loop-tile.tile ≡ 16 = omega arith in
    c.loop-tile.invariant.change
    ∙ ap (λ n. each (unit_turn (g.V.Windows.blocks v) (g.V.Windows.budget v)) n
    (seen (g.V.Windows.held v) c.args.grid.now.state)) all

pub returns-clause-heard : goal.returns-clause-heard
returns-clause-heard g c =
    let v = c.args.grid.now.window in
    let all : c.loop-tile.tile ≡ 16 = omega arith in
    subst (λ n. Heard c.args.told.now (of_each (unit_turn (g.V.Windows.blocks v) (g.V.Windows.budget v))
    (turn_notes (g.V.Windows.blocks v) (g.V.Windows.budget v)) n
    (seen (g.V.Windows.held v) c.args.grid.now.state)) c.loop-tile.told) all c.loop-tile.invariant.heard
