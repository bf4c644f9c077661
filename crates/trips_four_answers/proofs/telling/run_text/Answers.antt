use Rattle.std.proofs.Common.{◌∙◌}
use Rattle.trips_report.specs.Runs.{plain_report}
use Rattle.trips_report.proofs.ListedTexts.{shows_nothing}
use Rattle.trips_four_answers.proofs.telling.run_text.Goals as goal

pub returns-in-Ok : goal.returns-in-Ok
returns-in-Ok c =
    let s = c.args.arch.now.state in
    c.in-Ok.ensures.ok ∙ shows_nothing (plain_report c.args.ending s) s
    c.uncounted-measured.result 0
