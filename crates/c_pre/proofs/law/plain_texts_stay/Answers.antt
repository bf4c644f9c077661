use Rattle.c_pre.proofs.Texts.{plain_texts}
use Rattle.c_pre.proofs.law.plain_texts_stay.Goals as goal

pub returns : goal.returns
returns c = record { law = plain_texts }
