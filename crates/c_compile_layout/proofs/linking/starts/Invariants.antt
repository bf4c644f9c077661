use Rattle.std.proofs.Common.{◌≡◌, ◌+◌, ◌++◌, drop}
use Rattle.std.specs.List.{sum_by}
use Rattle.trips_isa.specs.Images.{chunks}
use Rattle.c_compile_layout.specs.inside.Layouts.{begins}
use Rattle.c_compile_layout.proofs.linking.starts.Given as goal

abbrev pub invariant-loop-block : goal.invariant-loop-block
invariant-loop-block l =
    (l.out.items ++ begins l.here (drop l.block-index l.blocks) ≡ begins 0 l.blocks)
    × (l.here + sum_by chunks (drop l.block-index l.blocks) ≡ sum_by chunks l.blocks)
