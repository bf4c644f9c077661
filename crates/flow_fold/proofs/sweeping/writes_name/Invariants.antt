use Rattle.std.proofs.Common.{◌≡◌, drop}
use Rattle.ir_forms.specs.inside.FlowRegular.{writes_name}
use Rattle.flow_fold.proofs.sweeping.writes_name.Given as goal

abbrev pub invariant-loop-w : goal.invariant-loop-w
invariant-loop-w l = writes_name l.s (drop l.w-index l.writes) ≡ writes_name l.s l.writes
