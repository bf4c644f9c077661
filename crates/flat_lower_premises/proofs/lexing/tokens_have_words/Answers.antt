use Rattle.flat_lower_premises.proofs.ProgramWords.{lexed_has}
use Rattle.flat_lower_premises.proofs.lexing.tokens_have_words.Goals as goal

pub returns : goal.returns
returns c = lexed_has
