use Rattle.c_lex.proofs.Answered.{answered}
use Rattle.c_lex.proofs.every_text_answers.Goals as goal

pub returns : goal.returns
returns c = record { law = answered }
