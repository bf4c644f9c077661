use Rattle.std.proofs.Common.{◌≡◌, [], take, drop}
use Rattle.c_type.specs.inside.Functions.{params_fault}
use Rattle.c_type.proofs.parameters.params_at.Given as goal

abbrev pub invariant-loop-i : goal.invariant-loop-i
invariant-loop-i l = record {
  same_fault : params_fault l.is_def l.fn.names [] l.params ≡ params_fault l.is_def l.fn.names (take l.i l.params)
      (drop l.i l.params);
  same_names : l.names ≡ l.fn.names;
}
