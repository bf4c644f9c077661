use Rattle.std.proofs.Common.{◌≡◌, drop}
use Rattle.std.specs.List.{list_all}
use Rattle.trips_requests.specs.Limits.{is_digit}
use Rattle.trips_json.proofs.numbers.is_number.Given as goal

abbrev pub invariant-loop-byte : goal.invariant-loop-byte
invariant-loop-byte l = list_all is_digit l.word ≡ list_all is_digit (drop l.byte-index l.word)
