use Rattle.library_laws.proofs.Filled.{fills}
use Rattle.library_laws.proofs.law.characters_are_filled_in.Goals as goal

pub returns : goal.returns
returns c = record { law = fills }
