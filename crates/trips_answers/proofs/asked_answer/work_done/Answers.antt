use Rattle.std.proofs.Common.{◌≤◌, ◌<◌, length, sym, ap, subst, arith}
use Rattle.trips_requests.specs.declared.commands.Command.{Command}
use Rattle.trips_requests.specs.Limits.{most_count}
use Rattle.trips_requests.specs.declared.commands.Tool.TheVariants.{Assemble, Disassemble, Check}
use Rattle.trips_answers.specs.declared.forms.FileForm.{FileForm}
use Rattle.trips_answers.specs.Asks.{limit_of}
use Rattle.trips_answers.specs.Request.{form_of}
use Rattle.trips_answers.specs.declared.forms.Settings.{Settings}
use Rattle.trips_answers.proofs.Told.{evaluate_told, few_bytes, run_form_told, compile_told, list_told, tool_told}
use Rattle.trips_answers.proofs.Told.{explain_told, record_told, trap_done_told, work_is}
use Rattle.trips_answers.proofs.DrawnTold.{draw_form_told}
use Rattle.trips_answers.proofs.SavedTold.{save_form_told}
use Rattle.trips_answers.proofs.asked_answer.work_done.Goals as goal

pub text_evaluated-requires : goal.text_evaluated-requires
text_evaluated-requires c =
    let few = few_bytes (form_of c.args.asked.command c.args.asked.file.now) in
    omega (arith, few, c.requires.few)

pub file_explained-requires : goal.file_explained-requires
file_explained-requires c =
    let few = few_bytes (form_of c.args.asked.command c.args.asked.file.now) in
    omega (arith, few, c.requires.few)

pub text_listed-requires-clause-few : goal.text_listed-requires-clause-few
text_listed-requires-clause-few c =
    let few = few_bytes (form_of c.args.asked.command c.args.asked.file.now) in
    omega (arith, few, c.requires.few)

pub trap_explained-requires : goal.trap_explained-requires
trap_explained-requires c =
    let few = few_bytes (form_of c.args.asked.command c.args.asked.file.now) in
    omega (arith, few, c.requires.few)

pub text_compiled-requires-clause-few : goal.text_compiled-requires-clause-few
text_compiled-requires-clause-few c =
    let few = few_bytes (form_of c.args.asked.command c.args.asked.file.now) in
    omega (arith, few, c.requires.few)

pub run_done-requires-clause-few : goal.run_done-requires-clause-few
run_done-requires-clause-few c =
    subst (λ (f : FileForm). length c.args.bytes.now ≤ limit_of f) (sym c.form_of-form.ensures) c.requires.few

pub run_done-requires-clause-some : goal.run_done-requires-clause-some
run_done-requires-clause-some c = subst (λ (t : Settings). 0 < t.most) (sym c.settings_for-settings.ensures)
    c.requires.some

-- of each loop some turn is done
pub run_done-requires-clause-turns : goal.run_done-requires-clause-turns
run_done-requires-clause-turns c = subst (λ (t : Settings). 0 < t.unroll) (sym c.settings_for-settings.ensures)
    c.requires.turns

pub text_compiled-requires-clause-turns : goal.text_compiled-requires-clause-turns
text_compiled-requires-clause-turns c = subst (λ (t : Settings). 0 < t.unroll) (sym c.settings_for-settings.ensures)
    c.requires.turns

pub returns-in-Run : goal.returns-in-Run
returns-in-Run c = run_form_told _ _ _ _ _ _ _ _ (work_is c.args.asked.file.now c.in-Run.is) c.form_of-form.ensures
    c.settings_for-settings.ensures c.run_done.ensures

pub returns-in-Evaluate : goal.returns-in-Evaluate
returns-in-Evaluate c =
    evaluate_told _ _ _ _ _ _ _ _ (work_is c.args.asked.file.now c.in-Evaluate.is)
    (sym (ap (λ (t : Settings). t.most) c.settings_for-settings.ensures)) c.as_slice.ensures.value
    c.text_evaluated.ensures

pub returns-in-Compile : goal.returns-in-Compile
returns-in-Compile c = compile_told _ _ _ _ _ _ _ _ (work_is c.args.asked.file.now c.in-Compile.is)
    (sym (ap (λ (t : Settings). t.placing) c.settings_for-settings.ensures))
    (sym (ap (λ (t : Settings). t.unroll) c.settings_for-settings.ensures)) c.text_compiled.ensures

pub returns-in-List : goal.returns-in-List
returns-in-List c = list_told _ _ _ _ _ _ _ _ (work_is c.args.asked.file.now c.in-List.is)
    (sym (ap (λ (t : Settings). t.placing) c.settings_for-settings.ensures))
    (sym (ap (λ (t : Settings). t.unroll) c.settings_for-settings.ensures)) c.text_listed.ensures

pub returns-in-Assemble : goal.returns-in-Assemble
returns-in-Assemble c = tool_told _ Assemble _ _ _ _ _ (work_is c.args.asked.file.now c.in-Assemble.is)
    c.tool_done.ensures

pub returns-in-Disassemble : goal.returns-in-Disassemble
returns-in-Disassemble c = tool_told _ Disassemble _ _ _ _ _ (work_is c.args.asked.file.now c.in-Disassemble.is)
    c.tool_done-in-Disassemble.ensures

pub returns-in-Check : goal.returns-in-Check
returns-in-Check c = tool_told _ Check _ _ _ _ _ (work_is c.args.asked.file.now c.in-Check.is)
    c.tool_done-in-Check.ensures

pub returns-in-Explain : goal.returns-in-Explain
returns-in-Explain c = explain_told _ _ _ _ _ _ _ _ _ (work_is c.args.asked.file.now c.in-Explain.is)
    (sym (ap (λ (t : Settings). t.most) c.settings_for-settings.ensures)) c.as_slice-in-Explain.ensures.value
    c.file_explained.ensures

pub returns-in-Trap : goal.returns-in-Trap
returns-in-Trap c = trap_done_told _ _ _ _ _ _ _ _ (work_is c.args.asked.file.now c.in-Trap.is)
    (sym (ap (λ (t : Settings). t.most) c.settings_for-settings.ensures)) c.trap_explained.ensures

pub returns-in-Record : goal.returns-in-Record
returns-in-Record c = record_told _ _ _ _ _ _ _ (work_is c.args.asked.file.now c.in-Record.is)
    c.settings_for-settings.ensures c.recorded.ensures

pub save_done-requires-clause-few : goal.save_done-requires-clause-few
save_done-requires-clause-few c =
    subst (λ (f : FileForm). length c.args.bytes.now ≤ limit_of f) (sym c.form_of-form-in-Save.ensures)
    c.requires.few

pub save_done-requires-clause-some : goal.save_done-requires-clause-some
save_done-requires-clause-some c = subst (λ (t : Settings). 0 < t.most) (sym c.settings_for-settings.ensures)
    c.requires.some

pub save_done-requires-clause-most : goal.save_done-requires-clause-most
save_done-requires-clause-most c = subst (λ (t : Settings). t.most ≤ most_count)
    (sym c.settings_for-settings.ensures) c.requires.most

pub save_done-requires-clause-turns : goal.save_done-requires-clause-turns
save_done-requires-clause-turns c = subst (λ (t : Settings). 0 < t.unroll) (sym c.settings_for-settings.ensures)
    c.requires.turns

pub returns-in-Save : goal.returns-in-Save
returns-in-Save c = save_form_told _ _ _ _ _ _ _ _ (work_is c.args.asked.file.now c.in-Save.is)
    c.form_of-form-in-Save.ensures c.settings_for-settings.ensures c.save_done.ensures

pub returns-in-Resume : goal.returns-in-Resume
returns-in-Resume c = run_form_told _ _ _ _ _ _ _ _ (work_is c.args.asked.file.now c.in-Resume.is)
    (ap (λ (k : Command). form_of k c.args.asked.file.now) (sym c.in-Resume.is))
    c.settings_for-settings.ensures c.run_done-in-Resume.ensures

pub draw_done-requires-clause-few : goal.draw_done-requires-clause-few
draw_done-requires-clause-few c =
    subst (λ (f : FileForm). length c.args.bytes.now ≤ limit_of f) (sym c.form_of-form-in-Draw.ensures)
    c.requires.few

pub draw_done-requires-clause-some : goal.draw_done-requires-clause-some
draw_done-requires-clause-some c = subst (λ (t : Settings). 0 < t.most) (sym c.settings_for-settings.ensures)
    c.requires.some

pub draw_done-requires-clause-turns : goal.draw_done-requires-clause-turns
draw_done-requires-clause-turns c = subst (λ (t : Settings). 0 < t.unroll) (sym c.settings_for-settings.ensures)
    c.requires.turns

pub returns-in-Draw : goal.returns-in-Draw
returns-in-Draw c = draw_form_told _ _ _ _ _ _ _ _ (work_is c.args.asked.file.now c.in-Draw.is)
    c.form_of-form-in-Draw.ensures c.settings_for-settings.ensures c.draw_done.ensures
