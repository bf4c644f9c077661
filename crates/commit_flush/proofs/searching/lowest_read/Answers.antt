use Rattle.std.proofs.Common.{arith}
use Rattle.commit_flush_spec.specs.Older.{committed}
use Rattle.frame_state.specs.inside.Held.{running}
use Rattle.commit_flush.specs.declared.step.Step.TheVariants.{Read}
use Rattle.commit_flush.specs.inside.Steps.{is_next}
use Rattle.commit_flush.proofs.StepFacts.{read_off, reads_are}
use Rattle.commit_flush.proofs.SearchFacts.{of_reads}
use Rattle.commit_flush.proofs.searching.lowest_read.Goals as goal

pub between-requires-clause-within : goal.between-requires-clause-within
between-requires-clause-within c =
    let z = reads_are in let l = c.reads_of-reads.ensures.within in omega (arith, z, l)

pub returns-clause-value : goal.returns-clause-value
returns-clause-value c = λ s.
    let b = c.args.block.now in
    let h = c.args.held.now in
    of_reads (is_next Read (committed s) (running b h)) c.reads_of-reads.result c.between.result
    c.reads_of-reads.ensures.within
    (λ k l. read_off b h (committed s) k (let v = c.reads_of-reads.ensures.value in omega (arith, l, v)))
    (c.between.ensures.value s)
