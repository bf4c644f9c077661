use Rattle.std.proofs.Common.{sym, subst}
use Rattle.block_image.specs.Spelling.{ImageBytes}
use Rattle.trips_tools.proofs.tools.encoded.Goals as goal

pub returns : goal.returns
returns c text t = (
  c.args.image.now,
  t,
  subst (ImageBytes c.args.image.now) (sym c.from_vec.ensures.value) c.in_ok-bytes.ensures.ok,
)
