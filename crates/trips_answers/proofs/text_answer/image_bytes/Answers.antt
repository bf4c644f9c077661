use Rattle.std.proofs.Common.{IfOk, sym, subst}
use Rattle.trips_isa.specs.declared.block.Image.{Image}
use Rattle.trips_isa.specs.Images.{FitsImage}
use Rattle.block_image.specs.Spelling.{ImageBytes}
use Rattle.trips_answers.proofs.text_answer.image_bytes.Goals as goal

pub encode-requires : goal.encode-requires
encode-requires c = subst FitsImage (sym c.in_ok-copy.ensures.ok) c.copy_out.ensures.image.fits

pub returns : goal.returns
returns c = subst (λ (i : Image). IfOk c.encode.result (λ b. ImageBytes i b.items)) c.in_ok-copy.ensures.ok
    c.encode.ensures.ok
