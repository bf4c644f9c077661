use Rattle.std.proofs.Common.{◌≡◌, ◌++◌, drop}
use Rattle.flat_lower.specs.inside.Statements.{init_bytes}
use Rattle.flat_lower.proofs.globals.put_init.Given as goal

abbrev pub invariant-loop-w : goal.invariant-loop-w
invariant-loop-w l = l.bytes ++ init_bytes l.size (drop l.w-index l.init)
    ≡ l.fn.bytes ++ init_bytes l.size l.init
