use Rattle.std.proofs.Common.{◌≡◌, drop}
use Rattle.predication.specs.inside.Emits.{place_from}
use Rattle.predication.proofs.naming.place_of.Given as goal

abbrev pub invariant-loop-at : goal.invariant-loop-at
invariant-loop-at l =
    place_from l.at l.register (drop l.at l.entries) ≡ place_from 0 l.register l.entries
