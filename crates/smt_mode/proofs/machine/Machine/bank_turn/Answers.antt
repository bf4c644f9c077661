use Rattle.std.proofs.Common.{true, false, refl, arith}
use Rattle.grid_cycle_spec.specs.Banks.{bank_turn}
use Rattle.smt_spec.specs.Parts.{has_read}
use Rattle.smt_mode.specs.Machines.{four_of, images_of}
use Rattle.smt_mode.proofs.Loops.{first_done, first_end, first_more}
use Rattle.smt_mode.proofs.OneProgram.{kept_still, kept_then}
use Rattle.smt_mode.proofs.machine.Machine.bank_turn.Goals as goal

pub loop-i-init : goal.loop-i-init
loop-i-init g c =
    let m = c.args.self.now in
    record {
      change = refl;
      keeps = kept_still 4 m.programs.items m.budget m.cycles c.requires.ready;
    }

pub read_one-requires-clause-ready : goal.read_one-requires-clause-ready
read_one-requires-clause-ready g c = c.loop-i.invariant.keeps.ready

pub loop-i-preserved : goal.loop-i-preserved
loop-i-preserved g c =
    let m = c.args.self.now in
    let k = c.loop-i.self in
    let h = c.read_one.new.self in
    let v = c.loop-i.invariant in
    record {
      change = first_more (λ bs b. has_read bs b c.args.bank) (λ bs b. λ p. bank_turn (bs p) b c.args.bank)
          (images_of m) (images_of k) m.budget
          k.budget v.keeps.images v.keeps.budget c.args.programs.now c.loop-i.i (omega arith) _
          (four_of k) (four_of h) false c.if-read_one.ensures.value c.if-read_one.ensures.change refl v.change;
      keeps = kept_then 4 4 m.programs.items k.programs.items h.programs.items m.budget k.budget h.budget m.cycles
          k.cycles
          h.cycles v.keeps c.read_one.ensures.keeps;
    }

pub returns-then-read_one-clause-change : goal.returns-then-read_one-clause-change
returns-then-read_one-clause-change g c =
    let m = c.args.self.now in
    let k = c.loop-i.self in
    let h = c.read_one.new.self in
    let v = c.loop-i.invariant in
    first_done (λ bs b. has_read bs b c.args.bank) (λ bs b. λ p. bank_turn (bs p) b c.args.bank) (images_of m)
    (images_of k) m.budget
    k.budget v.keeps.images v.keeps.budget c.args.programs.now c.loop-i.i (omega arith) _
    (four_of k) (four_of h) true c.if-read_one.ensures.value c.if-read_one.ensures.change refl v.change

pub returns-then-read_one-clause-keeps : goal.returns-then-read_one-clause-keeps
returns-then-read_one-clause-keeps g c =
    let m = c.args.self.now in
    let k = c.loop-i.self in
    let h = c.read_one.new.self in
    kept_then 4 4 m.programs.items k.programs.items h.programs.items m.budget k.budget h.budget m.cycles k.cycles
    h.cycles c.loop-i.invariant.keeps c.read_one.ensures.keeps

pub returns-clause-change : goal.returns-clause-change
returns-clause-change g c =
    let m = c.args.self.now in
    first_end (has_read (images_of m) m.budget c.args.bank) (λ p. bank_turn ((images_of m) p) m.budget c.args.bank)
    c.args.programs.now
    c.loop-i.i (omega arith) _ (four_of c.loop-i.self) c.loop-i.invariant.change
