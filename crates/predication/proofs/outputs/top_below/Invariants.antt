use Rattle.std.proofs.Common.{◌≡◌, ◌≤◌, ◌<◌, ℕ, drop}
use Rattle.predication.specs.inside.Environments.{member}
use Rattle.predication.proofs.outputs.top_below.Given as goal

abbrev pub invariant-loop-register : goal.invariant-loop-register
invariant-loop-register l =
    (l.top ≤ l.count)
    × ((r : ℕ) → l.top ≤ r → r < l.count
    → member r (drop l.register-index l.registers) ≡ member r l.registers)
