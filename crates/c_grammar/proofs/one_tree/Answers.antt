use Rattle.c_grammar.proofs.Parsed.{one_tree}
use Rattle.c_grammar.proofs.one_tree.Goals as goal

pub returns : goal.returns
returns c = record { law = one_tree }
