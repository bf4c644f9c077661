use Rattle.std.proofs.Common.{◌≡◌, drop}
use Rattle.flat_lower.proofs.EmitLabels.{ComparedSoFar}
use Rattle.flat_lower.proofs.labels.put_compared.Given as goal

abbrev pub invariant-loop-section : goal.invariant-loop-section
invariant-loop-section l =
    ComparedSoFar l.n l.sections (drop l.section-index l.sections) l.fn.code l.code
    × (l.n ≡ l.section-index)
