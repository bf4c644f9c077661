use Rattle.std.proofs.Common.{arith}
use Rattle.trips_answers.proofs.Told.{few_bytes}
use Rattle.trips_answers.proofs.four_programs.made_of.Goals as goal

pub text_image-requires-clause-few : goal.text_image-requires-clause-few
text_image-requires-clause-few c = let few = few_bytes c.args.form in omega (arith, few, c.requires.few)
