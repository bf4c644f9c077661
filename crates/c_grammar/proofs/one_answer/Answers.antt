use Rattle.c_grammar.proofs.OneAnswer.{one_answer}
use Rattle.c_grammar.proofs.one_answer.Goals as goal

pub returns : goal.returns
returns c = record { law = one_answer }
