use Rattle.library_trees.proofs.TableRows.{table_has_tokens}
use Rattle.library_trees.proofs.law.table_has_tokens.Goals as goal

pub returns : goal.returns
returns c = record { law = table_has_tokens }
