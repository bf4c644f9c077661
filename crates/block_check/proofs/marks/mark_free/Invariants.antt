use Rattle.std.proofs.Common.{◌≡◌, ◌<◌, ℕ, take, true}
use Rattle.trips_isa.specs.PlaceNumbers.{place_count}
use Rattle.block_cases.specs.CaseRule.{no}
use Rattle.block_cases.specs.Cases.{bit}
use Rattle.block_check.specs.inside.Named.{named}
use Rattle.block_check.proofs.marks.mark_free.Given as goal

abbrev pub invariant-loop-mark : goal.invariant-loop-mark
invariant-loop-mark l = (k : ℕ) → k < l.mark-index → bit l.none k ≡ true

abbrev pub invariant-loop-x : goal.invariant-loop-x
invariant-loop-x l = (q : ℕ) → q < place_count → bit l.none q ≡ no (named (take l.x l.nodes) q)
