use Rattle.flat_lower_premises.proofs.CodeWeights.{few_statements}
use Rattle.flat_lower_premises.proofs.law.statements_are_few.Goals as goal

pub returns : goal.returns
returns c = few_statements
