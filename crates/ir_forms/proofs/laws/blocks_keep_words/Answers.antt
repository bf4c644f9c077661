use Rattle.ir_forms.proofs.WordsKept.{keeps_words}
use Rattle.ir_forms.proofs.laws.blocks_keep_words.Goals as goal

pub returns : goal.returns
returns c = keeps_words
