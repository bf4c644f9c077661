use Rattle.std.proofs.Common.{◌≡◌, refl, sym, ap, ap₂, ◌∙◌, add-one, arith}
use Rattle.grid_cycle_spec.specs.Choosing.{each}
use Rattle.smt_spec.specs.Parts.{data_turn_of}
use Rattle.smt_mode.specs.Machines.{four_of, images_of}
use Rattle.smt_mode.proofs.OneProgram.{kept_still, kept_then}
use Rattle.smt_mode.proofs.machine.Machine.answers.Goals as goal

pub loop-tile-init : goal.loop-tile-init
loop-tile-init g c =
    let m = c.args.self.now in
    record { change = refl; keeps = kept_still 4 m.programs.items m.budget m.cycles c.requires.ready }

pub data_turn-requires-clause-ready : goal.data_turn-requires-clause-ready
data_turn-requires-clause-ready g c = c.loop-tile.invariant.keeps.ready

pub loop-tile-preserved : goal.loop-tile-preserved
loop-tile-preserved g c =
    let m = c.args.self.now in
    let k = c.loop-tile.self in
    let h = c.data_turn.new.self in
    let v = c.loop-tile.invariant in
    let n = c.loop-tile.tile in
    record {
      change = c.data_turn.ensures.change
          ∙ ap₂ (λ bs b. data_turn_of bs b c.args.programs.now n (four_of k)) v.keeps.images v.keeps.budget
          ∙ ap (data_turn_of (images_of m) m.budget c.args.programs.now n) v.change
          ∙ ap (λ i. each (data_turn_of (images_of m) m.budget c.args.programs.now) i (four_of m)) (sym (add-one n));
      keeps = kept_then 4 4 m.programs.items k.programs.items h.programs.items m.budget k.budget h.budget m.cycles
          k.cycles
          h.cycles v.keeps c.data_turn.ensures.keeps;
    }

pub returns-clause-change : goal.returns-clause-change
returns-clause-change g c =
    let m = c.args.self.now in
    let all : c.loop-tile.tile ≡ 4 = omega arith in
    c.loop-tile.invariant.change
    ∙ ap (λ i. each (data_turn_of (images_of m) m.budget c.args.programs.now) i (four_of m)) all
