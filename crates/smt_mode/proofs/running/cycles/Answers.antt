use Rattle.std.proofs.Common.{refl, ◌∙◌, subst, arith}
use Rattle.smt_mode.specs.Fours.{HasRan}
use Rattle.smt_mode.specs.Machines.{four_of, images_of}
use Rattle.smt_mode.proofs.Endings.{over_at_most, ran_none, ran_to}
use Rattle.smt_mode.proofs.running.cycles.Goals as goal

pub loop-round-init : goal.loop-round-init
loop-round-init g c =
    let m = c.args.machine.now in
    record {
      engine = c.requires.engine;
      ran = ran_none g.W.Weather.next g.W.Weather.follows (images_of m) m.budget (four_of m);
      far = omega arith;
      images = refl;
      budget = refl;
    }

pub cycle-requires : goal.cycle-requires
cycle-requires g c = record { engine = c.loop-round.invariant.engine }

pub loop-round-preserved : goal.loop-round-preserved
loop-round-preserved g c =
    let m = c.args.machine.now in
    let k = c.loop-round.machine in
    let h = c.cycle.new.machine in
    let v = c.loop-round.invariant in
    let e = c.cycle.ensures in
    let next = g.W.Weather.next in
    let follows = g.W.Weather.follows in
    record {
      engine = e.engine;
      ran = ran_to next follows (images_of m) m.budget (four_of m) (four_of k) (four_of h) v.ran
          (subst (λ bs. HasRan next follows bs m.budget (four_of k) (four_of h)) v.images
          (subst (λ n. HasRan next follows (images_of k) n (four_of k) (four_of h)) v.budget e.ran));
      far = let a = v.far in let b = c.if-cycle.ensures.more refl in omega (arith, a, b);
      images = e.images ∙ v.images;
      budget = e.budget ∙ v.budget;
    }

pub returns-then-cycle-clause-over : goal.returns-then-cycle-clause-over
returns-then-cycle-clause-over g c = c.if-cycle.ensures.over

pub returns-then-cycle-clause-ran : goal.returns-then-cycle-clause-ran
returns-then-cycle-clause-ran g c =
    let m = c.args.machine.now in
    let k = c.loop-round.machine in
    let h = c.cycle.new.machine in
    let v = c.loop-round.invariant in
    let next = g.W.Weather.next in
    let follows = g.W.Weather.follows in
    ran_to next follows (images_of m) m.budget (four_of m) (four_of k) (four_of h) v.ran
    (subst (λ bs. HasRan next follows bs m.budget (four_of k) (four_of h)) v.images
    (subst (λ n. HasRan next follows (images_of k) n (four_of k) (four_of h)) v.budget c.cycle.ensures.ran))

pub returns-then-cycle-clause-images : goal.returns-then-cycle-clause-images
returns-then-cycle-clause-images g c = c.cycle.ensures.images ∙ c.loop-round.invariant.images

pub returns-then-cycle-clause-budget : goal.returns-then-cycle-clause-budget
returns-then-cycle-clause-budget g c = c.cycle.ensures.budget ∙ c.loop-round.invariant.budget

pub returns-clause-over : goal.returns-clause-over
returns-clause-over g c =
    let k = c.loop-round.machine in
    let v = c.loop-round.invariant in
    let room = v.engine.ready.cycles in
    let far = v.far in
    let same = v.budget in
    over_at_most g.W.Weather.next g.W.Weather.follows (images_of k) k.budget g.met.W.Weather.bounded (four_of k)
    v.engine.come (omega (arith, room)) (omega (arith, far, same))
