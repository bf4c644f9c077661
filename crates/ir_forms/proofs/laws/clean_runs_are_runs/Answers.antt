use Rattle.ir_forms.proofs.Cleanness.{clean_changes_nothing}
use Rattle.ir_forms.proofs.laws.clean_runs_are_runs.Goals as goal

pub returns : goal.returns
returns c = clean_changes_nothing
