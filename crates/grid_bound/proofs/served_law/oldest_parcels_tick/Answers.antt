use Rattle.grid_bound.proofs.Ticks.{oldest_ticks}
use Rattle.grid_bound.proofs.served_law.oldest_parcels_tick.Goals as goal

pub returns : goal.returns
returns W c = λ bound n k ns before after v w t. oldest_ticks _ _ bound n k ns before after v w t
