use Rattle.trips_isa.specs.Tables.{deepest}
use Rattle.trips_isa.specs.Blocks.{token_of}
use Rattle.block_cases.proofs.Traps.{plain_outcome}
use Rattle.block_cases.proofs.CleanLemmas.{clean_unmarked, clean_no_cause, clean_parts, clean_whole}
use Rattle.block_cases.proofs.marks_law.clean_blocks_are_unmarked.Goals as goal

pub returns-clause-marks : goal.returns-clause-marks
returns-clause-marks c = clean_unmarked

pub returns-clause-cause : goal.returns-clause-cause
returns-clause-cause c = clean_no_cause

pub returns-clause-outcome : goal.returns-clause-outcome
returns-clause-outcome c = λ blocks k b regs mem clean. plain_outcome blocks k b regs mem
    (clean_no_cause b (token_of b regs mem deepest) clean)

pub returns-clause-order : goal.returns-clause-order
returns-clause-order c = λ b g. (clean_parts b g, clean_whole b g)
