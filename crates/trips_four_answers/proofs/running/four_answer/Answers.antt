use Rattle.std.proofs.Common.{[], ◌∷◌}
use Rattle.std.proofs.lemmas.Result.{IfOk-weaker}
use Rattle.smt_mode.specs.Fours.{fours_of}
use Rattle.trips_four_answers.proofs.Told.{four_told}
use Rattle.trips_four_answers.proofs.running.four_answer.Goals as goal

pub returns : goal.returns
returns c =
    let r = c.run-endings.ensures in
    IfOk-weaker c.ended_answer.result _ _
    (λ a t. four_told c.args.input.now c.args.seed c.args.most (fours_of c.in_ok-four.four)
    (fours_of c.run-endings.new.self) r.over r.ran r.images r.budget c.args.cycles a.status a.report.items
    (c.args.first ∷ c.args.second ∷ c.args.third ∷ c.args.fourth ∷ [])
    c.run-endings.result c.in_ok-four.ensures r.alone t)
    c.ended_answer.ensures
