use Rattle.std.proofs.Common.{◌≡◌, map, length}
use Rattle.c_names.specs.Headers.{with_types}
use Rattle.c_names.proofs.header.declare_types.Given as goal

abbrev pub invariant-loop-rest : goal.invariant-loop-rest
invariant-loop-rest l =
    with_types (map (λ row. (row.0.now, row.1.now)) l.fn.rows) l.fn.scope
    ≡ with_types (map (λ row. (row.0.now, row.1.now)) l.rest) l.scope

abbrev pub decreases-loop-rest : goal.decreases-loop-rest
decreases-loop-rest l = length l.rest
