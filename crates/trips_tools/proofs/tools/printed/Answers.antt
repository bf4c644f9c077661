use Rattle.std.proofs.Common.{sym, subst}
use Rattle.target_asm_spec.specs.Text.{TargetText}
use Rattle.trips_tools.proofs.tools.printed.Goals as goal

pub returns : goal.returns
returns c bytes b = (
  c.args.image.now,
  subst (TargetText c.args.image.now) (sym c.from_vec.ensures.value) c.in_ok-text.ensures.ok,
  b,
)
