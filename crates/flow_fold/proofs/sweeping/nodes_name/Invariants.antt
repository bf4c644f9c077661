use Rattle.std.proofs.Common.{◌≡◌, drop}
use Rattle.ir_forms.specs.inside.FlowRegular.{nodes_name}
use Rattle.flow_fold.proofs.sweeping.nodes_name.Given as goal

abbrev pub invariant-loop-n : goal.invariant-loop-n
invariant-loop-n l = nodes_name l.s (drop l.n-index l.nodes) ≡ nodes_name l.s l.nodes
