use Rattle.ir_forms.proofs.Steps.{exec_then}
use Rattle.ir_forms.proofs.laws.statements_run_in_order.Goals as goal

pub returns : goal.returns
returns c = exec_then
