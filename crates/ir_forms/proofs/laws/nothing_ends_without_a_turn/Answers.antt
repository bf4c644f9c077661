use Rattle.ir_forms.proofs.Steps.{at_zero}
use Rattle.ir_forms.proofs.laws.nothing_ends_without_a_turn.Goals as goal

pub returns : goal.returns
returns c = at_zero
