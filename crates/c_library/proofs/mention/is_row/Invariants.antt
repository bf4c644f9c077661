use Rattle.std.proofs.Common.{◌≡◌, map, length}
use Rattle.c_library.specs.inside.Mentions.{is_row}
use Rattle.c_library.proofs.mention.is_row.Given as goal

abbrev pub invariant-loop-rest : goal.invariant-loop-rest
invariant-loop-rest l =
    is_row l.fn.name (map (λ row. (row.0.now, row.1, row.2.now)) l.fn.all)
    ≡ is_row l.name (map (λ row. (row.0.now, row.1, row.2.now)) l.rest)

abbrev pub decreases-loop-rest : goal.decreases-loop-rest
decreases-loop-rest l = length l.rest
