use Rattle.c_meaning_spec.proofs.Told.{undefined-is-told, rule-is-broken}
use Rattle.c_meaning_spec.proofs.laws.undefined_has_its_reason.Goals as goal

pub returns : goal.returns
returns c = record { told = undefined-is-told; rule = rule-is-broken }
