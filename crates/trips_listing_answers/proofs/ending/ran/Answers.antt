use Rattle.std.proofs.Common.{◌≡◌, ℕ, suc, ◌+◌, ◌≤◌, length, ap, subst, ◌∙◌, arith}
use Rattle.trips_isa.specs.declared.run.Stepped.{Stepped}
use Rattle.trips_isa.specs.declared.run.Stepped.TheVariants.{Went}
use Rattle.trips_isa.specs.Machine.{State, runs}
use Rattle.block_cases.specs.inside.Plain.{IsTrap}
use Rattle.trips_listing_answers.proofs.Steps.{none_made, one_more, all_made}
use Rattle.trips_listing_answers.proofs.ending.ran.Goals as goal

pub loop-made-init : goal.loop-made-init
loop-made-init c = record {
  ran = none_made c.args.image.now.blocks c.args.arch.now.state;
  few = omega arith;
  next = c.requires.next;
  trace = λ e. c.requires.fresh;
  budget = c.requires.budget;
}

pub loop-made-preserved : goal.loop-made-preserved
loop-made-preserved c = record {
  ran =
      let next : suc c.loop-made.made ≡ c.loop-made.made + 1 = omega arith in
      subst (λ (n : ℕ). (c.step-answer.new.self.state, c.step-answer.result)
      ≡ runs c.args.image.now.blocks c.args.arch.now.state n) next
      (one_more c.args.image.now.blocks c.args.arch.now.state c.loop-made.arch.state c.loop-made.made
      (c.step-answer.new.self.state, c.step-answer.result)
      (subst (λ (o : Stepped). (c.loop-made.arch.state, o)
      ≡ runs c.args.image.now.blocks c.args.arch.now.state c.loop-made.made) (c.goes.ensures.on c.if-goes.true)
      c.loop-made.invariant.ran) c.step-answer.ensures.step);
  few = omega (arith, c.loop-made-test.true);
  next = c.step-answer.ensures.next;
  trace = λ went. c.step-answer.ensures.trace (λ t. subst IsTrap went t)
      ∙ ap (λ (n : ℕ). n + 1) (c.loop-made.invariant.trace (c.goes.ensures.on c.if-goes.true));
  budget = c.step-answer.ensures.budget ∙ c.loop-made.invariant.budget;
}

pub returns-else-goes : goal.returns-else-goes
returns-else-goes c = all_made c.args.image.now.blocks c.args.arch.now.state c.loop-made.arch.state
    c.loop-made.answer c.loop-made.made c.args.budget (λ went. c.goes.ensures.over c.if-goes.false went)
    c.loop-made.invariant.few c.loop-made.invariant.ran
