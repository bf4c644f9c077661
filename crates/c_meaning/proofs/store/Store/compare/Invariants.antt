use Rattle.std.proofs.Common.{◌≡◌, ◌++◌, List, length}
use Rattle.c_meaning_spec.specs.Telling.{telling}
use Rattle.c_meaning_spec.specs.Statement.{Target, bodies, compared, leading}
use Rattle.c_meaning.specs.inside.View.{view}
use Rattle.c_meaning.proofs.store.Store.compare.Given as goal

-- what is left is what was to be done
abbrev pub invariant-loop-label : goal.invariant-loop-label
invariant-loop-label l =
    (ts : List Target)
    → compared (telling l.program) l.w (leading l.rest (bodies l.here) ++ ts) (bodies l.other) (view l.self)
    ≡ compared (telling l.program) l.w (leading l.fn.labels (bodies l.here) ++ ts) (bodies l.fn.other)
    (view l.fn.self)

abbrev pub decreases-loop-label : goal.decreases-loop-label
decreases-loop-label l = length l.rest
