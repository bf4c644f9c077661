use Rattle.std.proofs.Common.{◌≡◌, ◌++◌, length}
use Rattle.target_file.specs.Bare.{lines_of}
use Rattle.trips_listing_text.specs.Comments.{comments}
use Rattle.trips_listing_text.specs.Listed.{listed}
use Rattle.trips_listing_text.proofs.listing.listed.Given as goal

-- what is written so far, and what is of the lines to come
abbrev pub invariant-loop-rest : goal.invariant-loop-rest
invariant-loop-rest l =
    l.out.items ++ listed (comments l.entries l.told) l.k (lines_of l.rest)
    ≡ listed (comments l.entries l.told) 0 (lines_of l.target)

abbrev pub decreases-loop-rest : goal.decreases-loop-rest
decreases-loop-rest l = length l.rest
