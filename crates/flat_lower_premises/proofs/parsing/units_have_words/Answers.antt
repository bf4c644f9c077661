use Rattle.flat_lower_premises.proofs.UnitWords.{units_have_words}
use Rattle.flat_lower_premises.proofs.parsing.units_have_words.Goals as goal

pub returns : goal.returns
returns c = units_have_words
