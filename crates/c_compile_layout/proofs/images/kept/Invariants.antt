use Rattle.std.proofs.Common.{◌≡◌, ◌≤◌, take}
use Rattle.c_compile_layout.specs.inside.Standings.{trimmed}
use Rattle.c_compile_layout.proofs.images.kept.Given as goal

abbrev pub invariant-loop-k : goal.invariant-loop-k
invariant-loop-k l =
    (l.end ≤ l.k) × (take l.end l.bytes ≡ trimmed (take l.k l.bytes))
