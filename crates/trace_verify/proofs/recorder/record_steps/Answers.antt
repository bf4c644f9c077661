use Rattle.std.proofs.Common.{◌≡◌, ℕ, suc, ◌+◌, ◌<◌, ◌≤◌, length, refl, ap, subst, ◌∙◌, arith}
use Rattle.trips_isa.specs.declared.run.Stepped.{Stepped}
use Rattle.trips_isa.specs.declared.run.Stepped.TheVariants.{Went}
use Rattle.block_cases.specs.inside.Plain.{IsTrap}
use Rattle.trace_verify.specs.inside.Recording.{Recording}
use Rattle.trace_verify.proofs.Recording.{none_made, one_recorded, all_recorded}
use Rattle.trace_verify.proofs.recorder.record_steps.Goals as goal

pub loop-made-init : goal.loop-made-init
loop-made-init c = record {
  recording = none_made c.args.image.now.blocks c.args.arch.now.state c.args.out.now.items c.args.out.now.items refl;
  few = omega arith;
  next = c.requires.next;
  trace = λ e. c.requires.fresh;
  budget = c.requires.budget;
}

pub loop-made-preserved : goal.loop-made-preserved
loop-made-preserved c = record {
  recording =
      let next : suc c.loop-made.made ≡ c.loop-made.made + 1 = omega arith in
      subst (λ (n : ℕ). Recording c.args.image.now.blocks c.args.arch.now.state c.args.out.now.items
      c.record_step.new.out.items c.record_step.new.arch.state c.in_ok-answer.answer n) next
      (one_recorded c.args.image.now.blocks c.args.arch.now.state c.args.out.now.items c.loop-made.out.items
      c.record_step.new.out.items c.loop-made.arch.state c.loop-made.made
      (subst (λ (o : Stepped). Recording c.args.image.now.blocks c.args.arch.now.state c.args.out.now.items
      c.loop-made.out.items c.loop-made.arch.state o c.loop-made.made) (c.goes.ensures.on c.if-goes.true)
      c.loop-made.invariant.recording)
      c.record_step.new.arch.state c.in_ok-answer.answer c.in_ok-answer.ensures.step c.in_ok-answer.ensures.bytes);
  few = omega (arith, c.loop-made-test.true);
  next = c.in_ok-answer.ensures.next;
  trace = λ went. c.in_ok-answer.ensures.trace (λ t. subst IsTrap went t)
      ∙ ap (λ (n : ℕ). n + 1) (c.loop-made.invariant.trace (c.goes.ensures.on c.if-goes.true));
  budget = c.in_ok-answer.ensures.budget ∙ c.loop-made.invariant.budget;
}

pub returns-else-goes : goal.returns-else-goes
returns-else-goes c = record {
  recorded = all_recorded c.args.image.now.blocks c.args.arch.now.state c.args.out.now.items c.args.budget
      c.loop-made.made c.loop-made.out.items c.loop-made.arch.state c.loop-made.answer c.loop-made.invariant.recording
      c.loop-made.invariant.few (λ went. absurd (c.goes.ensures.over c.if-goes.false went));
}
