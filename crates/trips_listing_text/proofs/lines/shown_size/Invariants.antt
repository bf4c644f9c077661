use Rattle.std.proofs.Common.{◌≡◌, ◌+◌, drop, length}
use Rattle.trips_listing_text.specs.Comments.{shown}
use Rattle.trips_listing_text.proofs.lines.shown_size.Given as goal

-- the characters so far, and those that are still shown
abbrev pub invariant-loop-i : goal.invariant-loop-i
invariant-loop-i l = l.i + length (shown (drop l.i l.name)) ≡ length (shown l.name)
