use Rattle.c_meaning_spec.proofs.Tellings.{outcome-is-told, fault-is-told}
use Rattle.c_meaning_spec.proofs.laws.run_with_places_is_the_evaluation.Goals as goal

pub returns : goal.returns
returns c = record { outcome = outcome-is-told; fault = fault-is-told }
