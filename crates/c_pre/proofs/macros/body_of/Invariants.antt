use Rattle.std.proofs.Common.{◌≡◌, length}
use Rattle.std.specs.Option.{option_copied}
use Rattle.c_pre.specs.Macros.{body_of, last_body}
use Rattle.c_pre.proofs.macros.body_of.Given as goal

abbrev pub invariant-loop-rest : goal.invariant-loop-rest
invariant-loop-rest l = body_of l.fn.name l.fn.macros ≡ last_body l.name l.rest (option_copied l.body)

abbrev pub decreases-loop-rest : goal.decreases-loop-rest
decreases-loop-rest l = length l.rest
