use Rattle.block_cases.proofs.Unique.{only_table, pulled_is_table}
use Rattle.block_cases.proofs.law.tables_are_unique.Goals as goal

pub returns-clause-only : goal.returns-clause-only
returns-clause-only c = only_table

pub returns-clause-some : goal.returns-clause-some
returns-clause-some c = pulled_is_table
