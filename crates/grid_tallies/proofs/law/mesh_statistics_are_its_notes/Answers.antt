use Rattle.grid_tallies.proofs.Summed.{links_are, parcels_are, waits_are}
use Rattle.grid_tallies.proofs.law.mesh_statistics_are_its_notes.Goals as goal

pub returns-clause-parcels : goal.returns-clause-parcels
returns-clause-parcels c = parcels_are

pub returns-clause-links : goal.returns-clause-links
returns-clause-links c = links_are

pub returns-clause-waits : goal.returns-clause-waits
returns-clause-waits c = waits_are
