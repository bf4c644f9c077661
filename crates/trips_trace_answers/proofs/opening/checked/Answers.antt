use Rattle.trips_trace_answers.proofs.opening.checked.Goals as goal

pub returns-in-Ok-clause-good : goal.returns-in-Ok-clause-good
returns-in-Ok-clause-good c = λ k d lt. (c.count-blocks.ensures.image.each k d lt).good
