use Rattle.std.proofs.Common.{◌≡◌, ◌<◌, ◌||◌, ◌&&◌, ℕ, take}
use Rattle.trips_isa.specs.PlaceNumbers.{place_count}
use Rattle.block_cases.specs.CaseRule.{no}
use Rattle.block_cases.specs.Cases.{bit, present}
use Rattle.block_check.specs.inside.Named.{named}
use Rattle.block_check.specs.inside.Pass.{tok_at}
use Rattle.block_check.proofs.marks.mark_gaps.Given as goal

abbrev pub invariant-loop-x : goal.invariant-loop-x
invariant-loop-x l = (q : ℕ) → q < place_count → bit l.none q ≡ (bit l.initial.none q
    || (named (take l.x l.nodes) q && no (present (tok_at l.spots q))))
