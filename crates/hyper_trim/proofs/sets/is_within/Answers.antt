use Rattle.std.proofs.lemmas.Bool.{eqb-true}
use Rattle.hyper_trim.proofs.Members.{no_more}
use Rattle.hyper_trim.proofs.sets.is_within.Goals as goal

pub returns : goal.returns
returns c = λ yes.
    no_more c.args.set c.args.other c.without.result c.without.ensures (eqb-true c.without.result 0 yes)
