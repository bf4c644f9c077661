-- Beside what is believed of Tick.antt: one tick of the mesh, by links.
use Rattle.std.specs.Prelude.{Option, Some, None}
use Rattle.operand_net.specs.declared.parcel.Trip.{Trip}
use Rattle.operand_net.specs.declared.parcel.Stand.{Stand}
use Rattle.operand_net.specs.declared.parcel.Stand.TheVariants.{Nowhere, Away, Held}

-- what travels in a place, if anything does
abbrev pub trip_of : Stand → Option Trip
trip_of Nowhere = None
trip_of (Away trip a) = Some trip
trip_of (Held trip h) = Some trip
