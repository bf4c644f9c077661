use Rattle.trips_tools.proofs.MadeAnswers.{disassembled_told}
use Rattle.trips_tools.proofs.tool_answers.bytes_disassembled.Goals as goal

pub returns-in-Ok : goal.returns-in-Ok
returns-in-Ok c =
    disassembled_told c.args.bytes.now c.in-Ok.made _ c.in-Ok.ensures.ok c.made_answer.ensures
