use Rattle.std.proofs.Common.{◌≡◌, ◌+◌, drop, length}
use Rattle.flat_lower.specs.inside.Switches.{are_dense}
use Rattle.flat_lower.specs.inside.Emitted.{sections_in}
use Rattle.flat_lower.proofs.switching.are_dense.Given as goal

abbrev pub invariant-loop-section : goal.invariant-loop-section
invariant-loop-section l =
    (are_dense l.w (sections_in (drop l.section-index l.sections)) ≡ are_dense l.low (sections_in l.sections))
    × (l.left + l.section-index ≡ length l.sections)
