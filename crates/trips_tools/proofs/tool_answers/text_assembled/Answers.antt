use Rattle.trips_tools.proofs.MadeAnswers.{assembled_told}
use Rattle.trips_tools.proofs.tool_answers.text_assembled.Goals as goal

pub returns-in-Ok : goal.returns-in-Ok
returns-in-Ok c =
    assembled_told c.args.text.now c.in-Ok.made _ c.in-Ok.ensures.ok c.made_answer.ensures
