use Rattle.std.proofs.Common.{true, false, slice_index_or, refl, ap, ◌∙◌, arith}
use Rattle.grid_cycle_spec.specs.Units.{issues}
use Rattle.smt_spec.specs.Parts.{has_ready}
use Rattle.smt_mode.specs.Machines.{four_of, images_of}
use Rattle.smt_mode.proofs.FetchesOf.{after_two}
use Rattle.smt_mode.proofs.Loops.{first_done, first_end, first_more}
use Rattle.smt_mode.proofs.OneProgram.{kept_still}
use Rattle.smt_mode.proofs.machine.Machine.issue_first.Goals as goal

pub loop-i-init : goal.loop-i-init
loop-i-init g c =
    let m = c.args.self.now in
    record {
      change = refl;
      keeps = kept_still 4 m.programs.items m.budget m.cycles c.requires.ready;
      marked = c.requires.marked;
      free = c.requires.free;
    }

pub issue_one-requires-clause-ready : goal.issue_one-requires-clause-ready
issue_one-requires-clause-ready g c = c.loop-i.invariant.keeps.ready

pub issue_one-requires-clause-free : goal.issue_one-requires-clause-free
issue_one-requires-clause-free g c = c.loop-i.invariant.free

pub issue_one-requires-clause-marked : goal.issue_one-requires-clause-marked
issue_one-requires-clause-marked g c = c.loop-i.invariant.marked

pub loop-i-preserved : goal.loop-i-preserved
loop-i-preserved g c =
    let m = c.args.self.now in
    let k = c.loop-i.self in
    let h = c.issue_one.new.self in
    let v = c.loop-i.invariant in
    record {
      change = first_more (λ bs b. has_ready bs b c.args.tile) (λ bs b. λ p. issues (bs p) b c.args.tile)
          (images_of m) (images_of k)
          m.budget k.budget v.keeps.images v.keeps.budget c.args.programs.now c.loop-i.i (omega arith) _
          (four_of k) (four_of h) false c.if-issue_one.ensures.value c.if-issue_one.ensures.change refl v.change;
      keeps = after_two 4 4 m k h v.keeps c.issue_one.ensures.keeps;
      marked = c.issue_one.ensures.marked;
      free = ap (λ u. slice_index_or u c.args.tile 0) (c.if-issue_one.ensures.free refl) ∙ v.free;
    }

pub returns-then-issue_one-clause-change : goal.returns-then-issue_one-clause-change
returns-then-issue_one-clause-change g c =
    let m = c.args.self.now in
    let k = c.loop-i.self in
    let h = c.issue_one.new.self in
    let v = c.loop-i.invariant in
    first_done (λ bs b. has_ready bs b c.args.tile) (λ bs b. λ p. issues (bs p) b c.args.tile) (images_of m)
    (images_of k)
    m.budget k.budget v.keeps.images v.keeps.budget c.args.programs.now c.loop-i.i (omega arith) _
    (four_of k) (four_of h) true c.if-issue_one.ensures.value c.if-issue_one.ensures.change refl v.change

pub returns-then-issue_one-clause-keeps : goal.returns-then-issue_one-clause-keeps
returns-then-issue_one-clause-keeps g c =
    after_two 4 4 c.args.self.now c.loop-i.self c.issue_one.new.self c.loop-i.invariant.keeps
    c.issue_one.ensures.keeps

pub returns-clause-change : goal.returns-clause-change
returns-clause-change g c =
    let m = c.args.self.now in
    first_end (has_ready (images_of m) m.budget c.args.tile) (λ p. issues (images_of m p) m.budget c.args.tile)
    c.args.programs.now c.loop-i.i (omega arith) _ (four_of c.loop-i.self) c.loop-i.invariant.change
