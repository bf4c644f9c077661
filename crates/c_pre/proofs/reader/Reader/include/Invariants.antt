use Rattle.std.proofs.Common.{◌≡◌, map, length}
use Rattle.c_pre.specs.Lines.{included}
use Rattle.c_pre.proofs.reader.Reader.include.Given as goal

abbrev pub invariant-loop-rest : goal.invariant-loop-rest
invariant-loop-rest l =
    included l.fn.offset (map (λ row. (row.0.now, row.1, row.2)) l.fn.names) l.fn.self
    ≡ included l.offset (map (λ row. (row.0.now, row.1, row.2)) l.rest) l.self

abbrev pub decreases-loop-rest : goal.decreases-loop-rest
decreases-loop-rest l = length l.rest
