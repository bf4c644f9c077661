use Rattle.std.proofs.Common.{◌≡◌, ◌++◌, drop}
use Rattle.trips_listing_text.specs.Functions.{told_all}
use Rattle.trips_listing_text.proofs.functions.told_all.Given as goal

-- what is told so far, and what of the items to come
abbrev pub invariant-loop-item : goal.invariant-loop-item
invariant-loop-item l =
    l.all ++ told_all l.text l.tokens (drop l.item-index l.items) ≡ told_all l.text l.tokens l.items
