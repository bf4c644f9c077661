use Rattle.std.proofs.Common.{◌≡◌, ◌≤◌, drop}
use Rattle.trips_requests.specs.Limits.{value_from}
use Rattle.trips_json.proofs.numbers.value_of.Given as goal

abbrev pub invariant-loop-digit : goal.invariant-loop-digit
invariant-loop-digit l = record {
  so_far : value_from 0 l.digits ≡ value_from l.value (drop l.digit-index l.digits);
  few : l.value ≤ l.most;
}
