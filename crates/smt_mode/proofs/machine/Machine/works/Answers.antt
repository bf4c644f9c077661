use Rattle.std.proofs.Common.{◌≡◌, refl, sym, ap, ap₂, ◌∙◌, add-one, arith}
use Rattle.grid_cycle_spec.specs.Choosing.{each}
use Rattle.smt_spec.specs.Parts.{unit_turn_of}
use Rattle.smt_mode.specs.Machines.{four_of, images_of}
use Rattle.smt_mode.proofs.FetchesOf.{after_two}
use Rattle.smt_mode.proofs.OneProgram.{kept_still}
use Rattle.smt_mode.proofs.machine.Machine.works.Goals as goal

pub loop-tile-init : goal.loop-tile-init
loop-tile-init g c =
    let m = c.args.self.now in
    record {
      change = refl;
      keeps = kept_still 4 m.programs.items m.budget m.cycles c.requires.ready;
      marked = c.marks-marks.ensures;
    }

pub unit_turn-requires-clause-ready : goal.unit_turn-requires-clause-ready
unit_turn-requires-clause-ready g c = c.loop-tile.invariant.keeps.ready

pub unit_turn-requires-clause-marked : goal.unit_turn-requires-clause-marked
unit_turn-requires-clause-marked g c = c.loop-tile.invariant.marked

pub loop-tile-preserved : goal.loop-tile-preserved
loop-tile-preserved g c =
    let m = c.args.self.now in
    let k = c.loop-tile.self in
    let v = c.loop-tile.invariant in
    let n = c.loop-tile.tile in
    let ps = c.args.programs.now in
    record {
      change = c.unit_turn.ensures.change
          ∙ ap₂ (λ bs b. unit_turn_of bs b ps n (four_of k)) v.keeps.images v.keeps.budget
          ∙ ap (unit_turn_of (images_of m) m.budget ps n) v.change
          ∙ ap (λ i. each (unit_turn_of (images_of m) m.budget ps) i (four_of m)) (sym (add-one n));
      keeps = after_two 4 4 m k c.unit_turn.new.self v.keeps c.unit_turn.ensures.keeps;
      marked = c.unit_turn.ensures.marked;
    }

pub returns-clause-change : goal.returns-clause-change
returns-clause-change g c =
    let m = c.args.self.now in
    let all : c.loop-tile.tile ≡ 16 = omega arith in
    c.loop-tile.invariant.change
    ∙ ap (λ i. each (unit_turn_of (images_of m) m.budget c.args.programs.now) i (four_of m)) all

pub returns-clause-keeps : goal.returns-clause-keeps
returns-clause-keeps g c = c.loop-tile.invariant.keeps
