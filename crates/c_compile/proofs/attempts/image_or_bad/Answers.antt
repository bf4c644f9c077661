use Rattle.std.proofs.Common.{subst, sym, ◌∙◌}
use Rattle.trips_isa.specs.Images.{FitsImage}
use Rattle.c_compile_layout.specs.inside.Emitted.{image_of}
use Rattle.c_compile.proofs.TriedPlans.{all_good}
use Rattle.c_compile.proofs.attempts.image_or_bad.Goals as goal

pub make-requires : goal.make-requires
make-requires c = record { fits = subst FitsImage (sym c.in_ok-image.ensures.ok) c.requires.fits }

pub returns-in-Ok : goal.returns-in-Ok
returns-in-Ok c = (
  c.in-Ok.ensures.same ∙ c.in_ok-image.ensures.ok,
  all_good c.in_ok-image.image (image_of c.args.blocks c.args.bytes.now) c.in_ok-image.ensures.ok
      c.in-Ok.ensures.checked,
)
