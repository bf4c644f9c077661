use Rattle.std.proofs.Common.{refl, arith}
use Rattle.std.specs.Prelude.{true}
use Rattle.grid_cycle_spec.specs.Grid.{numbers_of}
use Rattle.grid_cycle_spec.specs.inside.Arrivals.{arrivals}
use Rattle.smt_mode.specs.Machines.{four_of, images_of}
use Rattle.smt_mode.proofs.Loops.{all_end, all_more}
use Rattle.smt_mode.proofs.OneProgram.{kept_still, kept_then}
use Rattle.smt_mode.proofs.machine.Machine.arrive_each.Goals as goal

pub loop-i-init : goal.loop-i-init
loop-i-init g c =
    let m = c.args.self.now in
    record {
      change = refl;
      keeps = kept_still 4 m.programs.items m.budget m.cycles c.requires.ready;
    }

pub arrive_one-requires-clause-ready : goal.arrive_one-requires-clause-ready
arrive_one-requires-clause-ready g c = c.loop-i.invariant.keeps.ready

pub loop-i-preserved : goal.loop-i-preserved
loop-i-preserved g c =
    let m = c.args.self.now in
    let k = c.loop-i.self in
    let h = c.arrive_one.new.self in
    let v = c.loop-i.invariant in
    record {
      change = all_more (λ bs b p x. true) (λ bs b p. λ x. arrivals (bs p) b (numbers_of x.window.frames) x)
          (images_of m) (images_of k) m.budget k.budget
          v.keeps.images v.keeps.budget c.args.programs.now c.loop-i.i (omega arith) _ (four_of k) (four_of h)
          c.arrive_one.ensures.change v.change;
      keeps = kept_then 4 4 m.programs.items k.programs.items h.programs.items m.budget k.budget h.budget m.cycles
          k.cycles
          h.cycles v.keeps c.arrive_one.ensures.keeps;
    }

pub returns-clause-change : goal.returns-clause-change
returns-clause-change g c =
    let m = c.args.self.now in
    all_end (λ p x. true) (λ p. λ x. arrivals ((images_of m) p) m.budget (numbers_of x.window.frames) x)
    c.args.programs.now c.loop-i.i (omega arith) _
    (four_of c.loop-i.self) c.loop-i.invariant.change
