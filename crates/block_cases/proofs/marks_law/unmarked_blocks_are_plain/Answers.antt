use Rattle.block_cases.proofs.Traps.{plain_outcome, plain_steps, plain_run}
use Rattle.block_cases.proofs.marks_law.unmarked_blocks_are_plain.Goals as goal

pub returns-clause-outcome : goal.returns-clause-outcome
returns-clause-outcome c = plain_outcome

pub returns-clause-step : goal.returns-clause-step
returns-clause-step c = plain_steps

pub returns-clause-run : goal.returns-clause-run
returns-clause-run c = plain_run
