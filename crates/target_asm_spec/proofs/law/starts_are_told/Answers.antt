use Rattle.target_asm_spec.proofs.Starts.{goals_agree}
use Rattle.target_asm_spec.proofs.law.starts_are_told.Goals as goal

pub returns : goal.returns
returns c = record { table = goals_agree }
