use Rattle.std.proofs.Common.{◌≤◌, length, refl, sym, ap, subst}
use Rattle.trips_requests.specs.declared.commands.Command.{Command}
use Rattle.trips_answers.specs.Asks.{limit_of}
use Rattle.trips_answers.specs.Fours.{further_of}
use Rattle.trips_answers.specs.Request.{form_named, form_of}
use Rattle.trips_answers.specs.Settings.{settings_of}
use Rattle.trips_answers.specs.inside.Settings.{request_seen}
use Rattle.trips_answers.proofs.DoneTold.{four_told, not_four, not_verify, other_told, verified_told}
use Rattle.trips_answers.proofs.Told.{work_is}
use Rattle.trips_answers.proofs.asked_answer.done.Goals as goal

pub returns-in-Verify-clause-answer : goal.returns-in-Verify-clause-answer
returns-in-Verify-clause-answer g c =
    let q = request_seen c.args.asked in
    let held = g.F.Files.held c.args.files.now in
    verified_told _ (form_of c.args.asked.command c.args.asked.file.now) (settings_of q) (held q.trace) _
    (further_of held q) _ c.args.bytes.now c.args.input _ (work_is c.args.asked.file.now c.in-Verify.is)
    (ap held c.trace_of.ensures) c.verified.ensures.answer

pub four_done-requires-clause-few : goal.four_done-requires-clause-few
four_done-requires-clause-few g c =
    subst (λ (k : Command). length c.args.bytes.now ≤ limit_of (form_of k c.args.asked.file.now)) c.in-Four.is
    c.requires.few

pub returns-in-Four-clause-answer : goal.returns-in-Four-clause-answer
returns-in-Four-clause-answer g c =
    let q = request_seen c.args.asked in
    let held = g.F.Files.held c.args.files.now in
    four_told _ (form_of c.args.asked.command c.args.asked.file.now) (form_named c.args.asked.file.now)
    (settings_of q) (settings_of q) (held q.trace) (further_of held q) (further_of held q) _ c.args.bytes.now
    c.args.input _ (work_is c.args.asked.file.now c.in-Four.is)
    (ap (λ (k : Command). form_of k c.args.asked.file.now) (sym c.in-Four.is)) refl refl c.four_done.ensures.answer

pub returns-in_default-clause-answer : goal.returns-in_default-clause-answer
returns-in_default-clause-answer g c =
    let q = request_seen c.args.asked in
    let held = g.F.Files.held c.args.files.now in
    other_told (held q.trace) (further_of held q) _ _ (form_of c.args.asked.command c.args.asked.file.now)
    (settings_of q) c.args.bytes.now c.args.input _
    (not_verify c.args.asked.command c.args.asked.file.now c.in_default.not-Verify)
    (not_four c.args.asked.command c.args.asked.file.now c.in_default.not-Four) c.work_done.ensures
