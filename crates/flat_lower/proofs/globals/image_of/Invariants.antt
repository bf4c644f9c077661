use Rattle.std.proofs.Common.{◌≡◌, ◌++◌, drop}
use Rattle.flat_lower.specs.inside.Statements.{globals_image}
use Rattle.flat_lower.proofs.globals.image_of.Given as goal

abbrev pub invariant-loop-global : goal.invariant-loop-global
invariant-loop-global l = l.bytes ++ globals_image (drop l.global-index l.globals)
    ≡ globals_image l.globals
