use Rattle.ir_forms.proofs.Checked.{checks_change_nothing}
use Rattle.ir_forms.proofs.laws.checks_change_nothing.Goals as goal

pub returns : goal.returns
returns c = checks_change_nothing
