use Rattle.c_type_rules.proofs.WellFormedPrograms.{well_formed}
use Rattle.c_type_rules.proofs.law.typed_programs_are_well_formed.Goals as goal

pub returns : goal.returns
returns c = well_formed
