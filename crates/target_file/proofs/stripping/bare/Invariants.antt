use Rattle.std.proofs.Common.{◌≡◌, ◌++◌, length}
use Rattle.target_file.specs.Bare.{bare}
use Rattle.target_file.proofs.stripping.bare.Given as goal

-- what is left of the lines so far, and of the rest
abbrev pub invariant-loop-rest : goal.invariant-loop-rest
invariant-loop-rest l = l.out.items ++ bare l.rest ≡ bare l.text

abbrev pub decreases-loop-rest : goal.decreases-loop-rest
decreases-loop-rest l = length l.rest
