use Rattle.std.proofs.Common.{◌≡◌, drop}
use Rattle.flat_lower.specs.inside.Switches.{default_at, section_count}
use Rattle.flat_lower.specs.inside.Emitted.{sections_in}
use Rattle.flat_lower.proofs.switching.default_at.Given as goal

abbrev pub invariant-loop-section : goal.invariant-loop-section
invariant-loop-section l =
    (default_at l.n l.other (sections_in (drop l.section-index l.sections))
    ≡ default_at 0 (section_count (sections_in l.sections)) (sections_in l.sections))
    × (l.n ≡ l.section-index)
