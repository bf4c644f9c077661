use Rattle.std.proofs.Common.{◌<◌, refl, sym, ap, subst, arith, ◌∙◌}
use Rattle.std.proofs.lemmas.Result.{IfOk-weaker}
use Rattle.trips_isa.specs.declared.block.Image.{Image}
use Rattle.trips_isa.specs.Machine.{start}
use Rattle.grid_cycle.proofs.Starts.{conditions_start}
use Rattle.grid_machine.specs.inside.WholeRuns.{IsKept}
use Rattle.grid_cycle.specs.Engines.{blocks_of, grid_of}
use Rattle.grid_logged.specs.Seeds.{HasLogged}
use Rattle.grid_logged.specs.declared.logged.Logged.{Logged}
use Rattle.grid_logged.proofs.seeded.run_image.Goals as goal

pub run_out-requires : goal.run_out-requires
run_out-requires c =
    let x = c.in_ok-grid.grid in
    let s = start c.args.image.bytes c.args.input.items in
    record {
      started = record {
        state = s;
        conditions = c.args.conditions;
        fresh = refl;
        starts = conditions_start s c.args.conditions c.in_ok-predictor.predictor c.weather_for.result (grid_of x)
            c.in_ok-grid.ensures.begun c.in_ok-predictor.ensures c.weather_for.ensures;
      };
      some = subst (λ b. 0 < b) (sym c.in_ok-grid.ensures.budget) c.requires.some;
      kept = subst (λ b. IsKept b (grid_of x)) (sym c.in_ok-grid.ensures.budget) c.in_ok-grid.ensures.kept;
    }

pub returns-clause-ran : goal.returns-clause-ran
returns-clause-ran c =
    let x = c.in_ok-grid.grid in
    let s = start c.args.image.bytes c.args.input.items in
    let a = c.args in
    let run = c.run_out.result in
    IfOk-weaker c.kept.result _ _
    (λ of e. subst (λ (r : Logged). HasLogged a.image.blocks s a.budget a.conditions a.first a.last a.limit r.ending
    (grid_of r.grid) r.log) (sym e)
    (subst (λ bs. HasLogged bs s a.budget a.conditions a.first a.last a.limit run.ending (grid_of run.grid) run.log)
    (ap (λ (i : Image). i.blocks) c.in_ok-grid.ensures.image)
    (subst (λ b. HasLogged (blocks_of x) s b a.conditions a.first a.last a.limit run.ending (grid_of run.grid) run.log)
    c.in_ok-grid.ensures.budget
    (c.run_out.ensures.ran s a.conditions refl (conditions_start s a.conditions c.in_ok-predictor.predictor
    c.weather_for.result (grid_of x) c.in_ok-grid.ensures.begun c.in_ok-predictor.ensures c.weather_for.ensures)))))
    c.kept.ensures.same

pub returns-clause-image : goal.returns-clause-image
returns-clause-image c = IfOk-weaker c.kept.result _ _
    (λ of e. ap (λ (r : Logged). blocks_of r.grid) e ∙ c.run_out.ensures.image
    ∙ ap (λ (i : Image). i.blocks) c.in_ok-grid.ensures.image) c.kept.ensures.same
