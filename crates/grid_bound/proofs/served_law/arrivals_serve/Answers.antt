use Rattle.grid_bound.proofs.OldestParcels as moved
use Rattle.grid_bound.proofs.served_law.arrivals_serve.Goals as goal

pub returns : goal.returns
returns W c = λ blocks budget m f fs t parcels weather good i ok went runs rule moves.
    moved.arrivals_serve blocks good budget t f m rule moves.hold fs i ok went runs parcels weather moves.moves
