use Rattle.std.proofs.Common.{sym, ap, ◌∙◌}
use Rattle.reg_assign.specs.inside.Pass.{last_of, front_of}
use Rattle.reg_assign.proofs.Notes.{last_behind, front_before}
use Rattle.reg_assign.proofs.walking.take_last.Goals as goal

pub returns-in-Some-clause-last : goal.returns-in-Some-clause-last
returns-in-Some-clause-last c =
    sym (ap last_of c.in-Some.ensures.value ∙ last_behind c.pop.new.self c.in-Some.reads)

pub returns-in-Some-clause-front : goal.returns-in-Some-clause-front
returns-in-Some-clause-front c =
    sym (ap front_of c.in-Some.ensures.value ∙ front_before c.pop.new.self c.in-Some.reads)
