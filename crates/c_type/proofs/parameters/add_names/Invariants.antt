use Rattle.std.proofs.Common.{◌≡◌, drop}
use Rattle.c_type.specs.inside.Functions.{params_names}
use Rattle.c_type.proofs.parameters.add_names.Given as goal

abbrev pub invariant-loop-param : goal.invariant-loop-param
invariant-loop-param l =
    params_names l.seen 0 l.fn.names ≡ params_names (drop l.param-index l.seen) l.number l.names
