use Rattle.std.proofs.Common.{◌+◌, ◌*◌, ◌∙◌, arith}
use Rattle.commit_flush_spec.specs.Older.{committed}
use Rattle.frame_state.specs.inside.Held.{running}
use Rattle.commit_flush.specs.declared.step.Step.TheVariants.{Firing}
use Rattle.commit_flush.specs.inside.Steps.{is_next}
use Rattle.commit_flush.proofs.StepFacts.{ready_next, slots_are}
use Rattle.commit_flush.proofs.LowestBitFacts.{by_low, by_high, by_none}
use Rattle.commit_flush.proofs.searching.lowest_ready.Goals as goal

pub returns-then-low-lt-BITS-clause-value : goal.returns-then-low-lt-BITS-clause-value
returns-then-low-lt-BITS-clause-value c = λ s.
    let b = c.args.block.now in
    let h = c.args.held.now in
    by_low (is_next Firing (committed s) (running b h)) c.ready.result c.lowest_bit-low.result
    c.lowest_bit-low.ensures
    (λ k l. c.ready.ensures.value b c.requires k l ∙ ready_next b h (committed s) (64 * 0 + k))
    c.if-low-lt-BITS.true

pub returns-then-low-lt-BITS-clause-within : goal.returns-then-low-lt-BITS-clause-within
returns-then-low-lt-BITS-clause-within c =
    let z = slots_are in let l = c.if-low-lt-BITS.true in omega (arith, z, l)

pub returns-then-high-lt-BITS-clause-value : goal.returns-then-high-lt-BITS-clause-value
returns-then-high-lt-BITS-clause-value c = λ s.
    let b = c.args.block.now in
    let h = c.args.held.now in
    by_high (is_next Firing (committed s) (running b h)) c.ready.result c.lowest_bit-low.result
    c.ready-2.result c.lowest_bit-high.result c.lowest_bit-low.ensures c.lowest_bit-high.ensures
    (λ k l. c.ready.ensures.value b c.requires k l ∙ ready_next b h (committed s) (64 * 0 + k))
    (λ k l. c.ready-2.ensures.value b c.requires k l ∙ ready_next b h (committed s) (64 * 1 + k))
    c.if-low-lt-BITS.false c.if-high-lt-BITS.true

pub returns-then-high-lt-BITS-clause-within : goal.returns-then-high-lt-BITS-clause-within
returns-then-high-lt-BITS-clause-within c =
    let z = slots_are in let l = c.if-high-lt-BITS.true in omega (arith, z, l)

pub returns-else-high-lt-BITS-clause-value : goal.returns-else-high-lt-BITS-clause-value
returns-else-high-lt-BITS-clause-value c = λ s.
    let b = c.args.block.now in
    let h = c.args.held.now in
    by_none (is_next Firing (committed s) (running b h)) c.ready.result c.lowest_bit-low.result
    c.ready-2.result c.lowest_bit-high.result c.lowest_bit-low.ensures c.lowest_bit-high.ensures
    (λ k l. c.ready.ensures.value b c.requires k l ∙ ready_next b h (committed s) (64 * 0 + k))
    (λ k l. c.ready-2.ensures.value b c.requires k l ∙ ready_next b h (committed s) (64 * 1 + k))
    c.if-low-lt-BITS.false c.if-high-lt-BITS.false
