-- The first of some operations that passes a test.
use Rattle.std.specs.Prelude.{Bool, List, [], ◌∷◌, Option, Some, None, if◌then◌else◌}
use Rattle.trips_isa.specs.declared.op.Op.{Op}

-- none where none of them passes it
abbrev pub first_with : (Op → Bool) → List Op → Option Op
first_with test [] = None
first_with test (o ∷ os) = if test o then Some o else first_with test os
