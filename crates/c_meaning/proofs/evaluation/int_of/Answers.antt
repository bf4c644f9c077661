use Rattle.std.proofs.Common.{◌∙◌, rules}
use Rattle.std.specs.Int.{w32}
use Rattle.std.specs.Int.RustNames.{FitsSigned}
use Rattle.std.proofs.lemmas.Int.{to_z-of_z}
use Rattle.c_meaning.proofs.Results.{low-bits}
use Rattle.c_meaning.proofs.evaluation.int_of.Goals as goal

pub returns : goal.returns
returns c =
    let f : FitsSigned w32 c.cast_signed.result = search rules in
    to_z-of_z w32 c.cast_signed.result f ∙ c.cast_signed.ensures ∙ low-bits c.args.w
