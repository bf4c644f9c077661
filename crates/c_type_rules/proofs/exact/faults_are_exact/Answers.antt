use Rattle.c_type_rules.proofs.FirstFaults.{fault_is, no_fault}
use Rattle.c_type_rules.proofs.GoodUnits.{unit_good}
use Rattle.c_type_rules.proofs.Decided.{decided}
use Rattle.c_type_rules.specs.Judgements.{a_unit}
use Rattle.c_type_rules.proofs.exact.faults_are_exact.Goals as goal

pub returns : goal.returns
returns c = record {
  exact = λ p f. (fault_is (a_unit p) f, unit_good p f);
  apart = λ p t f a x. no_fault (a_unit p) f (t, a) x;
  some = decided;
}
