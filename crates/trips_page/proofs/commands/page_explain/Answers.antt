use Rattle.std.proofs.Common.{[], List, ℕ, subst, take}
use Rattle.trips_answers.specs.Request.{Request}
use Rattle.trips_answers.specs.inside.Settings.{request_seen}
use Rattle.trips_page.specs.Told.{IsTold, c_name}
use Rattle.trips_page.proofs.commands.page_explain.Goals as goal

pub returns : goal.returns
returns c = λ some few.
    subst (λ (q : Request). IsTold q c_name c.args.text.now [] (take c.answer.result c.answer.new.out))
    c.work.ensures.request
    (subst (λ (n : List ℕ). IsTold (request_seen c.work.result) n c.args.text.now []
    (take c.answer.result c.answer.new.out)) c.work.ensures.file (c.answer.ensures some few))
