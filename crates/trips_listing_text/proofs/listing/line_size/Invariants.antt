use Rattle.std.proofs.Common.{◌≡◌, ◌+◌, drop}
use Rattle.target_file.specs.inside.Scanning.{line_size}
use Rattle.trips_listing_text.proofs.listing.line_size.Given as goal

-- the bytes so far, and those that still stand before a line feed
abbrev pub invariant-loop-i : goal.invariant-loop-i
invariant-loop-i l = l.i + line_size (drop l.i l.text) ≡ line_size l.text
