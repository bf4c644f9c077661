-- The image that is made of a file is one that its run has.
use Rattle.std.proofs.Common.{ℕ, List}
use Rattle.trips_isa.specs.declared.block.Image.{Image}
use Rattle.c_compile.proofs.Images.{images_mean}
use Rattle.c_compile.proofs.Meant.{does_text}
use Rattle.trips_answers.specs.declared.forms.FileForm.{FileForm}
use Rattle.trips_answers.specs.declared.forms.FileForm.TheVariants as form
use Rattle.trips_answers.specs.declared.forms.Settings.{Settings}
use Rattle.trips_answers.specs.Done.{IsImageFor}
use Rattle.trips_answers.specs.Fours.{IsImageBy}

-- of any form
pub image_for : (how : FileForm) (settings : Settings) (bytes : List ℕ) (image : Image)
    → IsImageBy how settings bytes image → IsImageFor how settings.unroll bytes image
image_for form.Source settings bytes image is =
    does_text bytes settings.placing settings.unroll image
    (images_mean bytes settings.placing settings.unroll image is)
image_for form.Target settings bytes image is = is
image_for form.Image settings bytes image is = is
image_for form.Saved settings bytes image is = absurd is
