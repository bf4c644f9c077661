use Rattle.std.proofs.Common.{◌≡◌, ℕ, ◌<◌, Some}
use Rattle.std.specs.Prelude.{slice_get}
use Rattle.hyper_trim.specs.inside.Sets.{Within}
use Rattle.hyper_trim.proofs.alive.returns_within.Given as goal

abbrev pub invariant-loop-a : goal.invariant-loop-a
invariant-loop-a l = (k a : ℕ) → k < l.a-index → slice_get l.table k ≡ Some a → Within a l.ret
