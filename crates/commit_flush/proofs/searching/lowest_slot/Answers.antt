use Rattle.std.proofs.Common.{arith}
use Rattle.commit_flush_spec.specs.Older.{committed}
use Rattle.frame_state.specs.inside.Held.{running}
use Rattle.commit_flush.specs.declared.step.Step.TheVariants.{Firing}
use Rattle.commit_flush.specs.inside.Steps.{is_next}
use Rattle.commit_flush.proofs.StepFacts.{slots_are}
use Rattle.commit_flush.proofs.SearchFacts.{of_slots}
use Rattle.commit_flush.proofs.searching.lowest_slot.Goals as goal

pub between-requires-clause-within : goal.between-requires-clause-within
between-requires-clause-within c = let z = slots_are in omega (arith, z)

pub returns-in-None-clause-value : goal.returns-in-None-clause-value
returns-in-None-clause-value c = λ s.
    of_slots (is_next Firing (committed s) (running c.args.block.now c.args.held.now)) c.between.result
    (c.between.ensures.value s)
