use Rattle.std.proofs.Common.{◌≡◌, refl, sym, ap, ap₂, ◌∙◌, add-one, arith}
use Rattle.grid_cycle_spec.specs.Choosing.{each}
use Rattle.smt_spec.specs.Parts.{bank_turn_of}
use Rattle.smt_mode.specs.Machines.{four_of, images_of}
use Rattle.smt_mode.proofs.OneProgram.{kept_still, kept_then}
use Rattle.smt_mode.proofs.machine.Machine.reads.Goals as goal

pub loop-bank-init : goal.loop-bank-init
loop-bank-init g c =
    let m = c.args.self.now in
    record { change = refl; keeps = kept_still 4 m.programs.items m.budget m.cycles c.requires.ready }

pub bank_turn-requires-clause-ready : goal.bank_turn-requires-clause-ready
bank_turn-requires-clause-ready g c = c.loop-bank.invariant.keeps.ready

pub loop-bank-preserved : goal.loop-bank-preserved
loop-bank-preserved g c =
    let m = c.args.self.now in
    let k = c.loop-bank.self in
    let h = c.bank_turn.new.self in
    let v = c.loop-bank.invariant in
    let n = c.loop-bank.bank in
    record {
      change = c.bank_turn.ensures.change
          ∙ ap₂ (λ bs b. bank_turn_of bs b c.args.programs.now n (four_of k)) v.keeps.images v.keeps.budget
          ∙ ap (bank_turn_of (images_of m) m.budget c.args.programs.now n) v.change
          ∙ ap (λ i. each (bank_turn_of (images_of m) m.budget c.args.programs.now) i (four_of m)) (sym (add-one n));
      keeps = kept_then 4 4 m.programs.items k.programs.items h.programs.items m.budget k.budget h.budget m.cycles
          k.cycles
          h.cycles v.keeps c.bank_turn.ensures.keeps;
    }

pub returns-clause-change : goal.returns-clause-change
returns-clause-change g c =
    let m = c.args.self.now in
    let all : c.loop-bank.bank ≡ 4 = omega arith in
    c.loop-bank.invariant.change
    ∙ ap (λ i. each (bank_turn_of (images_of m) m.budget c.args.programs.now) i (four_of m)) all
