use Rattle.std.proofs.Common.{arith}
use Rattle.trips_answers.proofs.Told.{few_bytes}
use Rattle.trips_answers.proofs.asked_answer.save_done.Goals as goal

pub text_saved-requires-clause-few : goal.text_saved-requires-clause-few
text_saved-requires-clause-few c = let few = few_bytes c.args.form in omega (arith, few, c.requires.few)
