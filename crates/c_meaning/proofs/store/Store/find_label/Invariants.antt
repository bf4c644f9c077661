use Rattle.std.proofs.Common.{◌≡◌, [], length}
use Rattle.c_meaning_spec.specs.Telling.{telling}
use Rattle.c_meaning_spec.specs.Statement.{bodies, compared, targets}
use Rattle.c_meaning.specs.inside.View.{view}
use Rattle.c_meaning.proofs.store.Store.find_label.Given as goal

-- what is left is what was to be done
abbrev pub invariant-loop-section : goal.invariant-loop-section
invariant-loop-section l =
    compared (telling l.program) l.w (targets l.here) (bodies l.other) (view l.self)
    ≡ compared (telling l.program) l.w (targets l.fn.sections) [] (view l.fn.self)

abbrev pub decreases-loop-section : goal.decreases-loop-section
decreases-loop-section l = length l.here
