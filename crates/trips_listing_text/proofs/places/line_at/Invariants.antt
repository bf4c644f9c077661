use Rattle.std.proofs.Common.{◌≡◌, ◌+◌, ◌-◌, ◌≤◌, drop, take}
use Rattle.trips_listing_text.specs.Functions.{feeds, line_at}
use Rattle.trips_listing_text.proofs.places.line_at.Given as goal

-- the line feeds so far, and those that still stand before the place
abbrev pub invariant-loop-i : goal.invariant-loop-i
invariant-loop-i l =
    (l.line + feeds (take (l.at - l.i) (drop l.i l.text)) ≡ line_at l.text l.at) × (l.line ≤ l.i + 1) × (l.i ≤ l.at)
