-- The stated start with any predictor has the grid's rule, which does not speak of predictors.
use Rattle.std.proofs.Common.{[]}
use Rattle.trips_isa.specs.Machine.{State}
use Rattle.block_predict.specs.Predicts.{Holding}
use Rattle.grid_cycle_spec.specs.Grid.{Grid}
use Rattle.grid_cycle_spec.specs.Cycles.{begun_at}
use Rattle.grid_bound.specs.inside.Rule.{GridRule, GenerationsCounted}
use Rattle.grid_bound.proofs.StatedStart.{begins_right, begins_counted}

module _ {W : Type 0} where
  predicting : (p : Holding) (g : Grid W) → GridRule g → GridRule (record g { predictor = p })
  predicting p g r = record {
    frames = r.frames;
    tied = r.tied;
    careful = r.careful;
    nothing = r.nothing;
    units = r.units;
    mesh = r.mesh;
    fetch = r.fetch;
  }

  -- the stated start has the grid's rule with any predictor
  pub begun_rule : (s : State) (p : Holding) (weather : W)
      → GridRule (record (begun_at s [] weather) { predictor = p })
  begun_rule s p weather = predicting p (begun_at s [] weather) (begins_right s [] weather)

  -- the stated start counts generations right with any predictor
  pub begun_counted : (s : State) (p : Holding) (weather : W)
      → GenerationsCounted (record (begun_at s [] weather) { predictor = p })
  begun_counted s p weather = begins_counted s [] weather
