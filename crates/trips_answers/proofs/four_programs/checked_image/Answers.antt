use Rattle.std.proofs.Common.{subst}
use Rattle.block_check.specs.declared.refusal.ImageRefusal.{ImageRefusal}
use Rattle.block_check.specs.inside.Images.{IsRefusal}
use Rattle.trips_answers.proofs.NoImages.{checked_so}
use Rattle.trips_answers.proofs.four_programs.checked_image.Goals as goal

pub returns-in-Err-Bad : goal.returns-in-Err-Bad
returns-in-Err-Bad c = checked_so c.args.image c.in-Err-Bad.number c.in-Err-Bad.fault _ _
    (subst (λ (r : ImageRefusal). IsRefusal c.args.image r) c.in-Err-Bad.field-0-is c.in-Err-Bad.ensures.err)
    c.refused.ensures c.refusal_of.ensures
