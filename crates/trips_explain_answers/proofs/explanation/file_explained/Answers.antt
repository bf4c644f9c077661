use Rattle.std.proofs.Common.{IfOk, subst, sym, ◌∙◌}
use Rattle.trips_explain_answers.specs.declared.shape.Shape.{Shape}
use Rattle.trips_explain_answers.specs.inside.Explained.{IsExplainedAs}
use Rattle.trips_explain_answers.proofs.explanation.file_explained.Goals as goal

pub returns-in-Target : goal.returns-in-Target
returns-in-Target c = subst (λ (h : Shape). IfOk c.target_explained.result
    (λ answer. IsExplainedAs h c.args.file.now c.args.bytes.now c.args.input.now c.args.steps answer.status
    answer.report.items))
    (sym c.in-Target.is ∙ c.shape_named.ensures) c.target_explained.ensures

pub returns-in-Image : goal.returns-in-Image
returns-in-Image c = subst (λ (h : Shape). IfOk c.image_explained.result
    (λ answer. IsExplainedAs h c.args.file.now c.args.bytes.now c.args.input.now c.args.steps answer.status
    answer.report.items))
    (sym c.in-Image.is ∙ c.shape_named.ensures) c.image_explained.ensures
