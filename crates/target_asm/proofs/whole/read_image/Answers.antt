use Rattle.target_asm.proofs.Steps.{answers_same, read_only}
use Rattle.target_asm.proofs.whole.read_image.Goals as goal

pub returns-clause-value : goal.returns-clause-value
returns-clause-value c = answers_same c.args.text.now c.steps.result c.steps.ensures.value

pub returns-clause-only_ok : goal.returns-clause-only_ok
returns-clause-only_ok c = read_only c.args.text.now c.steps.result
    (answers_same c.args.text.now c.steps.result c.steps.ensures.value)
