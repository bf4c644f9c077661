use Rattle.block_cases.proofs.Settled.{only_solution, token_solves}
use Rattle.block_cases.proofs.law.entry_tables_are_unique.Goals as goal

pub returns-clause-only : goal.returns-clause-only
returns-clause-only c = λ b r regs mem g s. only_solution b regs mem r g s

pub returns-clause-some : goal.returns-clause-some
returns-clause-some c = λ b r regs mem. token_solves b regs mem r
