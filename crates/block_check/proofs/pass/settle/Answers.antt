use Rattle.std.proofs.Common.{◌∙◌, arith, sym, inl, inr, add-one}
use Rattle.block_cases.specs.Cases.{bit}
use Rattle.block_check.specs.inside.Pass.{tok_at, once}
use Rattle.block_check.proofs.Rounds.{settled_from}
use Rattle.block_check.proofs.pass.settle.Goals as goal

pub loop-changed-preserved : goal.loop-changed-preserved
loop-changed-preserved c = record {
  few = omega arith;
  answers = λ x. rw add-one (c.round-changed.ensures.gives x
      ∙ (λ i. once c.args.nodes.now (bit c.args.bits.now) (λ y. c.loop-changed.invariant.answers y
      i) x));
  rest = c.round-changed.ensures.rest;
  stable = λ e x. c.round-changed.ensures.gives x ∙ (λ i. once c.args.nodes.now (bit
      c.args.bits.now) (λ y. sym (c.round-changed.ensures.same e y) i) x);
}

pub returns-else-rounds-lt160-clause-toks : goal.returns-else-rounds-lt160-clause-toks
returns-else-rounds-lt160-clause-toks c =
    settled_from c.args.nodes.now c.requires.ranked (bit c.args.bits.now) (tok_at c.args.toks.now)
    (tok_at c.loop-changed.toks) c.loop-changed.rounds c.loop-changed.invariant.answers
    c.loop-changed.invariant.few
    (inr (omega arith))

pub returns-after-loop-changed-clause-toks : goal.returns-after-loop-changed-clause-toks
returns-after-loop-changed-clause-toks c =
    settled_from c.args.nodes.now c.requires.ranked (bit c.args.bits.now) (tok_at c.args.toks.now)
    (tok_at c.loop-changed.toks) c.loop-changed.rounds c.loop-changed.invariant.answers
    c.loop-changed.invariant.few
    (inl (c.loop-changed.invariant.stable c.loop-changed-test.false))
