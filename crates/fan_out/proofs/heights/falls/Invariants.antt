use Rattle.std.proofs.Common.{◌≡◌, drop}
use Rattle.fan_out.specs.inside.Heights as spec
use Rattle.fan_out.proofs.heights.falls.Given as goal

abbrev pub invariant-loop-spot : goal.invariant-loop-spot
invariant-loop-spot l = spec.falls l.last l.heights (drop l.spot-index l.spots) ≡ spec.falls 255 l.heights l.spots
