use Rattle.std.proofs.Common.{◌≡◌, ◌≤◌, drop}
use Rattle.trips_listing_text.specs.Functions.{closing}
use Rattle.trips_listing_text.proofs.places.closing.Given as goal

-- what is found in the tokens to come, where no more braces are open than tokens are passed
abbrev pub invariant-loop-t : goal.invariant-loop-t
invariant-loop-t l =
    (closing l.at l.depth (drop l.t-index l.tokens) ≡ closing l.at 0 l.tokens) × (l.depth ≤ l.t-index)
