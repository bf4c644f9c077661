use Rattle.std.proofs.Common.{true, false, refl, ap, ◌∙◌, arith}
use Rattle.grid_cycle_spec.specs.Fetches.{begins}
use Rattle.smt_spec.specs.Parts.{may_begin}
use Rattle.smt_spec.specs.Programs.{is_idle}
use Rattle.smt_spec.specs.Turns.{first_does}
use Rattle.smt_mode.specs.Machines.{four_of, images_of}
use Rattle.smt_mode.proofs.Loops.{first_done, first_end, first_left, first_more}
use Rattle.smt_mode.proofs.OneProgram.{kept_still, kept_then}
use Rattle.smt_mode.proofs.machine.Machine.begin_first.Goals as goal

pub loop-i-init : goal.loop-i-init
loop-i-init g c =
    let m = c.args.self.now in
    record {
      change = refl;
      keeps = kept_still 4 m.programs.items m.budget m.cycles c.requires.ready;
      idle = c.requires.idle;
    }

pub begin_one-requires-clause-ready : goal.begin_one-requires-clause-ready
begin_one-requires-clause-ready g c = c.loop-i.invariant.keeps.ready

pub loop-i-preserved : goal.loop-i-preserved
loop-i-preserved g c =
    let m = c.args.self.now in
    let k = c.loop-i.self in
    let h = c.begin_one.new.self in
    let v = c.loop-i.invariant in
    record {
      change = first_more (λ bs b. may_begin bs) (λ bs b. λ p. begins (bs p)) (images_of m) (images_of k) m.budget
          k.budget v.keeps.images v.keeps.budget c.args.programs.now c.loop-i.i (omega arith) _
          (four_of k) (four_of h) false c.if-begin_one.ensures.value c.if-begin_one.ensures.change refl v.change;
      keeps = kept_then 4 4 m.programs.items k.programs.items h.programs.items m.budget k.budget h.budget m.cycles
          k.cycles
          h.cycles v.keeps c.begin_one.ensures.keeps;
      idle = ap is_idle
          (first_left (λ bs b. may_begin bs) (λ bs b. λ p. begins (bs p)) (images_of m) (images_of k) m.budget
          k.budget v.keeps.images v.keeps.budget c.args.programs.now c.loop-i.i (omega arith)
          (first_does (may_begin (images_of m)) (λ p. begins (images_of m p)) c.args.programs.now (four_of m))
          (four_of k) (four_of h) false c.if-begin_one.ensures.value c.if-begin_one.ensures.change refl) ∙ v.idle;
    }

pub returns-then-begin_one-clause-change : goal.returns-then-begin_one-clause-change
returns-then-begin_one-clause-change g c =
    let m = c.args.self.now in
    let k = c.loop-i.self in
    let h = c.begin_one.new.self in
    let v = c.loop-i.invariant in
    first_done (λ bs b. may_begin bs) (λ bs b. λ p. begins (bs p)) (images_of m) (images_of k) m.budget
    k.budget v.keeps.images v.keeps.budget c.args.programs.now c.loop-i.i (omega arith) _
    (four_of k) (four_of h) true c.if-begin_one.ensures.value c.if-begin_one.ensures.change refl v.change

pub returns-then-begin_one-clause-keeps : goal.returns-then-begin_one-clause-keeps
returns-then-begin_one-clause-keeps g c =
    let m = c.args.self.now in
    let k = c.loop-i.self in
    let h = c.begin_one.new.self in
    kept_then 4 4 m.programs.items k.programs.items h.programs.items m.budget k.budget h.budget m.cycles k.cycles
    h.cycles c.loop-i.invariant.keeps c.begin_one.ensures.keeps

pub returns-clause-change : goal.returns-clause-change
returns-clause-change g c =
    let m = c.args.self.now in
    first_end (may_begin (images_of m)) (λ p. begins ((images_of m) p)) c.args.programs.now
    c.loop-i.i (omega arith) _ (four_of c.loop-i.self) c.loop-i.invariant.change

pub begin_one-requires-clause-idle : goal.begin_one-requires-clause-idle
begin_one-requires-clause-idle g c = c.loop-i.invariant.idle
