use Rattle.std.proofs.Common.{◌≡◌, length}
use Rattle.predication.specs.inside.Emits.{puts, env_of}
use Rattle.predication.proofs.naming.put_all.Given as goal

abbrev pub decreases-loop-last : goal.decreases-loop-last
decreases-loop-last l = length l.rest

abbrev pub invariant-loop-last : goal.invariant-loop-last
invariant-loop-last l = puts l.rest (env_of l.entries) ≡ puts l.fn.named (env_of l.fn.entries)
