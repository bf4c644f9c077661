use Rattle.c_meaning_spec.proofs.Tellings.{tells-alike, going-on-tells-nothing, stopping-is-placed}
use Rattle.c_meaning_spec.proofs.laws.places_are_told_where_it_stops.Goals as goal

pub returns : goal.returns
returns c = record { alike = tells-alike; on = going-on-tells-nothing; placed = stopping-is-placed }
