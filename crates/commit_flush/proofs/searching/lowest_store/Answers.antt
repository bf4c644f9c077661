use Rattle.std.proofs.Common.{◌+◌, ◌*◌, ap, ◌∙◌, is_some, arith}
use Rattle.commit_flush_spec.specs.Frames.{at}
use Rattle.commit_flush_spec.specs.Older.{committed}
use Rattle.frame_state.specs.inside.Held.{running}
use Rattle.commit_flush_spec.proofs.Stuck.{numbers_are}
use Rattle.commit_flush.specs.declared.step.Step.TheVariants.{Store}
use Rattle.commit_flush.specs.inside.Steps.{is_next}
use Rattle.commit_flush.proofs.StepFacts.{store_off}
use Rattle.commit_flush.proofs.LowestBitFacts.{none_there}
use Rattle.commit_flush.proofs.SearchFacts.{no_number, of_numbers}
use Rattle.commit_flush.proofs.searching.lowest_store.Goals as goal

pub between-requires-clause-within : goal.between-requires-clause-within
between-requires-clause-within c = let z = numbers_are in omega (arith, z)

pub returns-then-word-eq0-clause-value : goal.returns-then-word-eq0-clause-value
returns-then-word-eq0-clause-value c = λ s.
    let b = c.args.block.now in
    let h = c.args.held.now in
    no_number (is_next Store (committed s) (running b h))
    (λ k l. store_off b h (committed s) k (none_there h.requests c.word.result 32
    (λ i m n. c.word.ensures.value i m n ∙ ap (λ xs. is_some (at xs (64 * 0 + i))) c.requests.ensures.value)
    c.if-word-eq0.true (omega arith) k l))

pub returns-else-word-eq0-clause-value : goal.returns-else-word-eq0-clause-value
returns-else-word-eq0-clause-value c = λ s.
    of_numbers (is_next Store (committed s) (running c.args.block.now c.args.held.now)) c.between.result
    (c.between.ensures.value s)
