use Rattle.std.proofs.Common.{◌≡◌, ◌++◌, drop}
use Rattle.trips_listing_text.specs.Scalars.{parameter_names}
use Rattle.trips_listing_text.proofs.scalars.put_parameters.Given as goal

-- the names so far, and those of the parameters to come
abbrev pub invariant-loop-param : goal.invariant-loop-param
invariant-loop-param l =
    l.names ++ parameter_names (drop l.param-index l.params) ≡ l.fn.names ++ parameter_names l.params
