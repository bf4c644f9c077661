use Rattle.std.proofs.Common.{◌≤◌, length, drop}
use Rattle.ir_forms.specs.inside.HyperViews.{items_of}
use Rattle.hyper_trim.specs.inside.Trim as spec
use Rattle.hyper_trim.specs.inside.Walked.{Holds}
use Rattle.hyper_trim.proofs.walking.+walk.Given as goal

abbrev pub invariant-walked-loop-at : goal.invariant-walked-loop-at
invariant-walked-loop-at l = record {
  within : l.at ≤ length l.items;
  holds : Holds (spec.trim l.leg (items_of (drop l.at l.items)) (spec.ended l.live)) l.walk;
}

abbrev pub decreases-walked-loop-at : goal.decreases-walked-loop-at
decreases-walked-loop-at l = l.at
