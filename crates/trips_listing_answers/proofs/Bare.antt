-- A listing without its comments is the target text of its image.
use Rattle.std.proofs.Common.{◌≡◌, List, ℕ, subst, sym, ap, ◌∙◌}
use Rattle.trips_isa.specs.declared.block.Image.{Image}
use Rattle.target_asm_spec.specs.Text.{TargetText}
use Rattle.target_file.specs.Bare.{bare}
use Rattle.target_file.proofs.Texts.{text_bare}
use Rattle.trips_listing_text.specs.Functions.{told_all}
use Rattle.trips_listing_text.proofs.Insertions.{listing_bare}
use Rattle.trips_listing_answers.specs.Listings.{ListingsTellImages}

-- what is left of a listing is the target text
pub tells_images : ListingsTellImages
tells_images text p turns report h =
    let w = h.written in
    let e = ap bare w.is ∙ listing_bare h.entries (told_all text w.tokens w.tree.items) w.target
    ∙ text_bare h.image w.target w.spelled in
    (h.image, h.listed.image, subst (TargetText h.image) (sym e) w.spelled)
