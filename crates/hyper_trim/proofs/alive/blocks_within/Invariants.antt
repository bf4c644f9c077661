use Rattle.std.proofs.Common.{◌≡◌, ℕ, ◌<◌, Some, map}
use Rattle.std.specs.Prelude.{slice_get}
use Rattle.ir_forms.specs.inside.HyperCode.{Block}
use Rattle.ir_forms.specs.inside.HyperViews.{block_of}
use Rattle.hyper_trim.specs.inside.Sets.{Within}
use Rattle.hyper_trim.specs.inside.Alive as spec
use Rattle.hyper_trim.proofs.alive.blocks_within.Given as goal

abbrev pub invariant-loop-at : goal.invariant-loop-at
invariant-loop-at l =
    (k a : ℕ) (b : Block) → k < l.at → slice_get l.table k ≡ Some a → slice_get (map block_of l.blocks) k ≡ Some b
    → Within (spec.trim_items l.table l.ret b).live a
