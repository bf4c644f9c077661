use Rattle.std.proofs.Common.{◌≡◌, ◌++◌}
use Rattle.predication.specs.inside.Converted.{among, writes_below}
use Rattle.predication.specs.inside.Emits.{env_of}
use Rattle.predication.proofs.outputs.writes_below.Given as goal

abbrev pub decreases-loop-register : goal.decreases-loop-register
decreases-loop-register l = l.register

abbrev pub invariant-loop-register : goal.invariant-loop-register
invariant-loop-register l =
    l.writes ++ writes_below (env_of l.names.entries) (among l.lasting l.names.sets) l.register
    ≡ writes_below (env_of l.names.entries) (among l.lasting l.names.sets) l.count
