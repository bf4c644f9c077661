use Rattle.std.proofs.Common.{inl, subst}
use Rattle.std.proofs.lemmas.Result.{IfOk-weaker}
use Rattle.trips_isa.specs.declared.block.Image.{Image}
use Rattle.trips_grid_answers.specs.Saved.{IsSavedRun}
use Rattle.trips_answers.proofs.Told.{checked_good}
use Rattle.trips_answers.proofs.saved_answer.checked_saved.Goals as goal

pub returns-in-Ok : goal.returns-in-Ok
returns-in-Ok c =
    let good = checked_good c.args.image c.in-Ok.ensures.checked in
    IfOk-weaker c.image_saved.result _ _
    (λ answer h. inl (
      good,
      subst (λ (i : Image). IsSavedRun i c.args.input c.args.settings.most
          answer.status answer.report.items) c.in-Ok.ensures.same h,
    )) c.image_saved.ensures
