use Rattle.std.proofs.Common.{◌≡◌, sym, ap, ap₂, ◌∙◌, add-one, arith}
use Rattle.grid_cycle_spec.specs.Choosing.{each}
use Rattle.grid_cycle_spec.specs.Units.{issues, unit_turn}
use Rattle.grid_parts.specs.Seen.{seen}
use Rattle.grid_parts.proofs.MarkedFacts.{slots_moved, slots_kept}
use Rattle.grid_parts.proofs.grid.Grid.works_on.Goals as goal

pub issues_marked-requires-clause-marked : goal.issues_marked-requires-clause-marked
issues_marked-requires-clause-marked g c =
    let same = c.unit_on.ensures.same in
    slots_moved _ _ _ _ _ _ c.marked_slots-marks.result (ap g.V.Windows.blocks same) (ap g.V.Windows.budget same)
    (ap g.V.Windows.held same) c.loop-tile.invariant.marked

pub loop-tile-preserved : goal.loop-tile-preserved
loop-tile-preserved g c =
    let v = c.args.self.now.window in
    let tile = c.loop-tile.tile in
    let start = seen (g.V.Windows.held v) c.args.self.now.state in
    let same = c.unit_on.ensures.same in
    let u = c.unit_on.new.self in
    let image = ap g.V.Windows.blocks same in
    let budget = ap g.V.Windows.budget same in
    record {
      change = c.issues_marked.ensures.change
          ∙ ap₂ (λ bs b. issues bs b tile (seen (g.V.Windows.held u.window) u.state))
          (image ∙ c.loop-tile.invariant.image) (budget ∙ c.loop-tile.invariant.budget)
          ∙ ap (issues (g.V.Windows.blocks v) (g.V.Windows.budget v) tile) c.unit_on.ensures.change
          ∙ ap (unit_turn (g.V.Windows.blocks v) (g.V.Windows.budget v) tile) c.loop-tile.invariant.change
          ∙ ap (λ n. each (unit_turn (g.V.Windows.blocks v) (g.V.Windows.budget v)) n start) (sym (add-one tile));
      image = c.issues_marked.ensures.image ∙ image ∙ c.loop-tile.invariant.image;
      budget = c.issues_marked.ensures.budget ∙ budget ∙ c.loop-tile.invariant.budget;
      marked = slots_moved _ _ _ _ _ _ c.marked_slots-marks.result c.issues_marked.ensures.image
          c.issues_marked.ensures.budget (ap (λ x. x.window) c.issues_marked.ensures.change)
          (slots_kept (g.V.Windows.blocks u.window) (g.V.Windows.budget u.window) tile
          (seen (g.V.Windows.held u.window) u.state) c.marked_slots-marks.result
          (slots_moved _ _ _ _ _ _ c.marked_slots-marks.result image budget (ap g.V.Windows.held same)
          c.loop-tile.invariant.marked));
    }

pub returns-clause-change : goal.returns-clause-change
returns-clause-change g c =
    let v = c.args.self.now.window in
    let all : c.loop-tile.tile ≡ 16 = omega arith in
    c.loop-tile.invariant.change
    ∙ ap (λ n. each (unit_turn (g.V.Windows.blocks v) (g.V.Windows.budget v)) n
    (seen (g.V.Windows.held v) c.args.self.now.state)) all
