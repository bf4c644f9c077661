use Rattle.std.proofs.Common.{◌+◌, ◌*◌, ap, ◌∙◌, is_some, arith}
use Rattle.commit_flush_spec.specs.Frames.{at}
use Rattle.commit_flush_spec.specs.Older.{committed}
use Rattle.frame_state.specs.inside.Held.{running}
use Rattle.commit_flush.specs.declared.step.Step.TheVariants.{Token}
use Rattle.commit_flush.specs.inside.Steps.{is_next}
use Rattle.commit_flush.proofs.StepFacts.{place_off, places_are}
use Rattle.commit_flush.proofs.LowestBitFacts.{word_more, from_place, no_place}
use Rattle.commit_flush.proofs.searching.lowest_place.Goals as goal

pub between-requires-clause-within : goal.between-requires-clause-within
between-requires-clause-within c = let p = places_are in omega (arith, p)

pub loop-word-preserved : goal.loop-word-preserved
loop-word-preserved c = λ p l. word_more c.args.held.now.places c.loop-word.word c.word.result
    c.lowest_bit-bit.result c.lowest_bit-bit.ensures
    (λ s m n. c.word.ensures.value s m n
    ∙ ap (λ xs. is_some (at xs (64 * c.loop-word.word + s))) c.places-places.ensures.value)
    (omega arith) c.loop-word.invariant p (let e = c.if-bit-lt-BITS.false in omega (arith, l, e))

pub returns-then-bit-lt-BITS-clause-value : goal.returns-then-bit-lt-BITS-clause-value
returns-then-bit-lt-BITS-clause-value c = λ s.
    let b = c.args.block.now in
    let h = c.args.held.now in
    let l = c.if-bit-lt-BITS.true in
    from_place (is_next Token (committed s) (running b h)) (64 * c.loop-word.word + c.lowest_bit-bit.result)
    c.between.result (omega (arith, l))
    (λ p m. place_off b h (committed s) p (word_more h.places c.loop-word.word c.word.result
    c.lowest_bit-bit.result c.lowest_bit-bit.ensures
    (λ k q n. c.word.ensures.value k q n
    ∙ ap (λ xs. is_some (at xs (64 * c.loop-word.word + k))) c.places-places.ensures.value)
    (omega arith) c.loop-word.invariant p m))
    (c.between.ensures.value s)

pub returns-clause-value : goal.returns-clause-value
returns-clause-value c = λ s.
    let b = c.args.block.now in
    let h = c.args.held.now in
    no_place (is_next Token (committed s) (running b h)) (64 * c.loop-word.word) (omega arith)
    (λ p l. place_off b h (committed s) p (c.loop-word.invariant p l))
