use Rattle.trips_isa.specs.Forms.{form_of}
use Rattle.trips_isa.proofs.WordLemmas.{alu_fits, loaded_fits, seen_is_word, computes_word}
use Rattle.trips_isa.proofs.law.words_give_words.Goals as goal

pub returns-clause-alu : goal.returns-clause-alu
returns-clause-alu c = alu_fits

pub returns-clause-loaded : goal.returns-clause-loaded
returns-clause-loaded c = loaded_fits

pub returns-clause-bytes : goal.returns-clause-bytes
returns-clause-bytes c = seen_is_word

pub returns-clause-computes : goal.returns-clause-computes
returns-clause-computes c = λ i answer l r m h u v. computes_word (form_of i.op) i answer l r m h u v
