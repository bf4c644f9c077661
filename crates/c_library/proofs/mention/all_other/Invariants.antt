use Rattle.std.proofs.Common.{◌≡◌, false, length}
use Rattle.c_library.specs.inside.Mentions.{all_other}
use Rattle.c_library.proofs.mention.all_other.Given as goal

abbrev pub invariant-loop-rest : goal.invariant-loop-rest
invariant-loop-rest l = all_other false l.fn.tokens ≡ all_other l.seen l.rest

abbrev pub decreases-loop-rest : goal.decreases-loop-rest
decreases-loop-rest l = length l.rest
