use Rattle.trips_listing_answers.proofs.Bare.{tells_images}
use Rattle.trips_listing_answers.proofs.law.listings_tell_images.Goals as goal

pub returns : goal.returns
returns c = tells_images
