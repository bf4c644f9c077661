use Rattle.flat_lower_premises.proofs.ItemWords.{program_has}
use Rattle.flat_lower_premises.proofs.typing.programs_have_words.Goals as goal

pub returns : goal.returns
returns c = program_has
