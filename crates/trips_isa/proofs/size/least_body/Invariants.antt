use Rattle.std.proofs.Common.{◌≡◌, ◌≤◌, ◌+◌, ◌*◌, drop, max}
use Rattle.trips_isa.specs.Images.{body_chunks}
use Rattle.trips_isa.proofs.size.least_body.Given as goal

-- what the slots so far take, with those that follow, is what all take
abbrev pub invariant-loop-slot : goal.invariant-loop-slot
invariant-loop-slot l = (max l.most (body_chunks l.slot (drop l.slot l.slots))
    ≡ body_chunks 0 l.slots) × (1 ≤ l.most) × (l.most ≤ 4) × (32 * l.most ≤ l.slot + 32)
