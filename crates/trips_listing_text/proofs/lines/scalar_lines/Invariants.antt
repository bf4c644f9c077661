use Rattle.std.proofs.Common.{◌≡◌, ◌++◌, [], drop}
use Rattle.trips_listing_text.specs.Comments.{scalar_lines}
use Rattle.trips_listing_text.proofs.lines.scalar_lines.Given as goal

-- the lines so far, and those of the scalars to come
abbrev pub invariant-loop-k : goal.invariant-loop-k
invariant-loop-k l =
    l.lines.out.items ++ scalar_lines l.name l.k (drop l.k l.names) l.lines.line.items
    ≡ scalar_lines l.name 0 l.names []
