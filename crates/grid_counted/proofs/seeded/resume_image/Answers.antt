use Rattle.std.proofs.Common.{◌<◌, List, length, sym, ap, subst, arith}
use Rattle.trips_isa.specs.declared.block.Image.{Image}
use Rattle.trips_isa.specs.declared.run.Traced.{Traced}
use Rattle.grid_cycle.proofs.Starts.{conditions_start}
use Rattle.grid_machine.specs.inside.WholeRuns.{IsKept}
use Rattle.grid_cycle.specs.Engines.{blocks_of, grid_of}
use Rattle.grid_counted.specs.Seeds.{HasCounted}
use Rattle.grid_counted.proofs.seeded.resume_image.Goals as goal

pub make_at-requires-clause-spent : goal.make_at-requires-clause-spent
make_at-requires-clause-spent c =
    let none = ap (λ (t : List Traced). length t) c.requires.fresh in omega (arith, none)

pub run_out-requires : goal.run_out-requires
run_out-requires c =
    let x = c.in_ok-grid.grid in
    let s = c.args.arch.state in
    record {
      started = record {
        state = s;
        conditions = c.args.conditions;
        fresh = c.requires.fresh;
        starts = conditions_start s c.args.conditions c.in_ok-predictor.predictor c.weather_for.result (grid_of x)
            c.in_ok-grid.ensures.begun c.in_ok-predictor.ensures c.weather_for.ensures;
      };
      some = subst (λ b. 0 < b) (sym c.in_ok-grid.ensures.budget) c.requires.some;
      kept = subst (λ b. IsKept b (grid_of x)) (sym c.in_ok-grid.ensures.budget) c.in_ok-grid.ensures.kept;
    }

pub returns-clause-ran : goal.returns-clause-ran
returns-clause-ran c =
    let x = c.in_ok-grid.grid in
    let s = c.args.arch.state in
    let run = c.run_out.result in
    subst (λ bs. HasCounted bs s c.args.budget c.args.conditions run.ending (grid_of run.grid) run.told run.flights)
    (ap (λ (i : Image). i.blocks) c.in_ok-grid.ensures.image)
    (subst (λ b. HasCounted (blocks_of x) s b c.args.conditions run.ending (grid_of run.grid) run.told run.flights)
    c.in_ok-grid.ensures.budget
    (c.run_out.ensures.ran s c.args.conditions c.requires.fresh (conditions_start s c.args.conditions
    c.in_ok-predictor.predictor
    c.weather_for.result (grid_of x) c.in_ok-grid.ensures.begun c.in_ok-predictor.ensures c.weather_for.ensures)))
