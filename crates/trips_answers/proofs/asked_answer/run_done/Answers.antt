use Rattle.std.proofs.Common.{arith}
use Rattle.trips_answers.proofs.Told.{few_bytes}
use Rattle.trips_answers.proofs.SavedTold.{resumed_told}
use Rattle.trips_answers.proofs.asked_answer.run_done.Goals as goal

pub text_answer-requires-clause-few : goal.text_answer-requires-clause-few
text_answer-requires-clause-few c = let few = few_bytes c.args.form in omega (arith, few, c.requires.few)

pub returns-in-Saved : goal.returns-in-Saved
returns-in-Saved c = resumed_told c.args.form c.args.bytes.now c.args.input c.args.settings _ c.in-Saved.is
    c.resumed.ensures
