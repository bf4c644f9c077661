use Rattle.hyper_narrow.proofs.WordsKept.{keeps_narrowed_words}
use Rattle.hyper_narrow.proofs.laws.narrowed_blocks_keep_words.Goals as goal

pub returns : goal.returns
returns c = keeps_narrowed_words
