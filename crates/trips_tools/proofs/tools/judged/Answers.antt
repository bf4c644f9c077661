use Rattle.std.proofs.Common.{sym, subst}
use Rattle.std.proofs.lemmas.Result.{IfOk-weaker}
use Rattle.trips_isa.specs.declared.block.Image.{Image}
use Rattle.block_image.specs.Spelling.{ImageBytes}
use Rattle.trips_tools.proofs.tools.judged.Goals as goal

pub returns-in-Ok : goal.returns-in-Ok
returns-in-Ok c = IfOk-weaker c.found_good.result _ _
    (λ made h bytes b. h bytes (subst (λ (i : Image). ImageBytes i bytes) (sym c.in-Ok.ensures.same) b))
    c.found_good.ensures
