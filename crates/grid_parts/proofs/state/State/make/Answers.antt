use Rattle.grid_parts.proofs.StartFacts.{starts, unset_flags}
use Rattle.grid_parts.proofs.state.State.make.Goals as goal

pub returns : goal.returns
returns g c = λ t. starts t c.args.predictor c.args.weather _ _ _ _ _ _ _ _ _ c.in_ok-mesh.ensures
    c.none.ensures c.none-2.ensures c.idle_units.ensures c.none-5.ensures
    (unset_flags 1024 _ c.none-3.ensures) (unset_flags 8 _ c.none-4.ensures) c.idle.ensures c.uncounted.ensures
