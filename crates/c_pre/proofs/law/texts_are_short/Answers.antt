use Rattle.c_pre.proofs.Texts.{lexed_few}
use Rattle.c_pre.proofs.law.texts_are_short.Goals as goal

pub returns : goal.returns
returns c = record { law = lexed_few }
