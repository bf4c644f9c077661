use Rattle.std.proofs.Common.{sym, ap, ◌∙◌}
use Rattle.hyper_build.specs.inside.Backward.{last_note, front_notes}
use Rattle.hyper_build.proofs.LastNotes.{last_behind, front_before}
use Rattle.hyper_build.proofs.emitting.take_last.Goals as goal

pub returns-in-Some-clause-last : goal.returns-in-Some-clause-last
returns-in-Some-clause-last c =
    sym (ap last_note c.in-Some.ensures.value ∙ last_behind c.pop.new.self c.in-Some.note)

pub returns-in-Some-clause-front : goal.returns-in-Some-clause-front
returns-in-Some-clause-front c =
    sym (ap front_notes c.in-Some.ensures.value ∙ front_before c.pop.new.self c.in-Some.note)
