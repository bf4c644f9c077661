use Rattle.grid_tallies.proofs.units.issued.Goals as goal

pub returns-clause-heard : goal.returns-clause-heard
returns-clause-heard g c = c.count.ensures c.args.tile
