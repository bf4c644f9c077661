use Rattle.std.proofs.Common.{◌≡◌, drop, slice_index_or}
use Rattle.grid_parts.specs.inside.EldestChoices.{first_found, lowest_slot}
use Rattle.grid_parts.proofs.state.State.result_of.Given as goal

abbrev pub invariant-loop-i : goal.invariant-loop-i
invariant-loop-i g l =
    first_found (λ m. lowest_slot (slice_index_or l.self.works.words m 0) l.tile) (drop l.i l.order)
    ≡ first_found (λ m. lowest_slot (slice_index_or l.self.works.words m 0) l.tile) l.order
