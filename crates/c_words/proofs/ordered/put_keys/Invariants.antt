use Rattle.std.proofs.Common.{◌≡◌, ◌++◌, length}
use Rattle.std.specs.Prelude.{map}
use Rattle.c_words.specs.Ordered.{key_at}
use Rattle.c_words.proofs.ordered.put_keys.Given as goal

abbrev pub invariant-loop-rest : goal.invariant-loop-rest
invariant-loop-rest l = l.fn.out ++ map (key_at l.fn.at) l.fn.keys ≡ l.out ++ map (key_at l.at) l.rest

abbrev pub decreases-loop-rest : goal.decreases-loop-rest
decreases-loop-rest l = length l.rest
