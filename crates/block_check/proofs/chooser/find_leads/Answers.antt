use Rattle.std.proofs.Common.{◌∙◌, slice_get, arith, inl, inr, add-one, sym}
use Rattle.block_cases.specs.Choosers.{leads_from}
use Rattle.block_cases.specs.Cases.{bit}
use Rattle.block_check.proofs.Chains.{all_led, no_leads}
use Rattle.block_check.proofs.chooser.find_leads.Goals as goal

pub loop-changed-preserved : goal.loop-changed-preserved
loop-changed-preserved c = record {
  few = omega arith;
  rest = c.round-changed.ensures.rest;
  gives = λ x. rw add-one (c.round-changed.ensures.gives x
      ∙ (λ i. leads_from c.args.nodes.now (slice_get c.args.nodes.now x) (λ y.
      c.loop-changed.invariant.gives y i)));
  stable = λ e x. c.round-changed.ensures.gives x ∙ (λ i. leads_from c.args.nodes.now (slice_get
      c.args.nodes.now x) (λ y. sym (c.round-changed.ensures.same e y) i));
}

pub returns-else-rounds-lt160 : goal.returns-else-rounds-lt160
returns-else-rounds-lt160 c = all_led c.args.nodes.now c.requires.ranked c.loop-changed.rounds (bit
    c.guess_leads.new.lead) (bit c.loop-changed.lead) c.loop-changed.invariant.few
    c.loop-changed.invariant.gives (inr (omega arith))

pub returns-after-loop-changed : goal.returns-after-loop-changed
returns-after-loop-changed c = all_led c.args.nodes.now c.requires.ranked c.loop-changed.rounds
    (bit c.guess_leads.new.lead) (bit c.loop-changed.lead) c.loop-changed.invariant.few
    c.loop-changed.invariant.gives (inl (c.loop-changed.invariant.stable c.loop-changed-test.false))

pub returns-then-not-any_names_predicate : goal.returns-then-not-any_names_predicate
returns-then-not-any_names_predicate c x = c.clear.ensures x
    ∙ no_leads c.args.nodes.now (c.any_names_predicate.ensures c.if-not-any_names_predicate.true) x
