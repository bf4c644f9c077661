use Rattle.std.proofs.Common.{◌≡◌, drop}
use Rattle.ir_forms.specs.inside.FlowRegular.{is_among}
use Rattle.flow_fold.proofs.sweeping.is_among.Given as goal

abbrev pub invariant-loop-x : goal.invariant-loop-x
invariant-loop-x l = is_among l.s (drop l.x-index l.sources) ≡ is_among l.s l.sources
