use Rattle.std.proofs.Common.{◌≡◌, drop}
use Rattle.null_outputs.specs.inside.Groups as groups
use Rattle.null_outputs.specs.inside.Surely as surely
use Rattle.null_outputs.specs.inside.Wants as wanted
use Rattle.null_outputs.proofs.layout.is_used.Given as goal

abbrev pub invariant-loop-n : goal.invariant-loop-n
invariant-loop-n l =
    (l.j ≡ l.n-index)
    × (groups.is_used (wanted.or_all l.closed (surely.firm_of l.wants)) l.j
    (drop l.n-index l.nodes) l.s l.y
    ≡ groups.is_used (wanted.or_all l.closed (surely.firm_of l.wants)) 0 l.nodes l.s l.y)
