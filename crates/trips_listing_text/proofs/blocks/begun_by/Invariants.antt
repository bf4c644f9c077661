use Rattle.std.proofs.Common.{◌≡◌, ◌+◌, drop}
use Rattle.trips_listing_text.specs.Comments.{begun_by}
use Rattle.trips_listing_text.proofs.blocks.begun_by.Given as goal

-- those so far, and those that still begin by the block
abbrev pub invariant-loop-i : goal.invariant-loop-i
invariant-loop-i l = l.i + begun_by l.k (drop l.i l.entries) ≡ begun_by l.k l.entries
