use Rattle.std.proofs.Common.{refl, sym, ap}
use Rattle.flat_lower.specs.inside.Switches.{default_at}
use Rattle.flat_lower.specs.inside.Emitted.{sections_in}
use Rattle.flat_lower.proofs.EmitLabels.{counted}
use Rattle.flat_lower.proofs.switching.default_at.Goals as goal

pub loop-section-init : goal.loop-section-init
loop-section-init c = (
  ap (λ n. default_at 0 n (sections_in c.args.sections.now)) (sym (counted c.args.sections.now)),
  refl,
)
