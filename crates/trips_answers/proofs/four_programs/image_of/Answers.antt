use Rattle.std.proofs.Common.{List, ℕ, length, ap, subst, arith}
use Rattle.trips_answers.specs.inside.Made.{IsMade}
use Rattle.trips_answers.proofs.four_programs.image_of.Goals as goal

pub made_of-requires-clause-few : goal.made_of-requires-clause-few
made_of-requires-clause-few c =
    let same = ap length c.as_slice-bytes.ensures.value in omega (arith, same, c.requires.few)

pub returns : goal.returns
returns c = subst (λ (b : List ℕ). IsMade c.args.program.now.form c.args.settings b c.made_of.result)
    c.as_slice-bytes.ensures.value c.made_of.ensures
