use Rattle.target_asm_laws.proofs.Images.{exact, both_ways}
use Rattle.target_asm_laws.proofs.law.texts_are_exact.Goals as goal

pub returns-clause-exact : goal.returns-clause-exact
returns-clause-exact c = exact

pub returns-clause-both_ways : goal.returns-clause-both_ways
returns-clause-both_ways c = both_ways
