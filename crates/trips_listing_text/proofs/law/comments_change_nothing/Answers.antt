use Rattle.trips_listing_text.proofs.Insertions.{listing_bare}
use Rattle.trips_listing_text.proofs.law.comments_change_nothing.Goals as goal

pub returns : goal.returns
returns c = listing_bare
