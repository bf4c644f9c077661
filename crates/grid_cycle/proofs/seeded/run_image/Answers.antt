use Rattle.std.proofs.Common.{Some, refl, ap, ◌∙◌, subst}
use Rattle.trips_isa.specs.declared.block.Image.{Image}
use Rattle.trips_isa.specs.Machine.{start}
use Rattle.grid_cycle.specs.Conditions.{IsRan}
use Rattle.grid_cycle.proofs.Starts.{conditions_start, started_going}
use Rattle.grid_machine.specs.Endings.{is_going}
use Rattle.grid_cycle.specs.Engines.{blocks_of, grid_of}
use Rattle.grid_cycle.proofs.seeded.run_image.Goals as goal

pub run_out-requires : goal.run_out-requires
run_out-requires c =
    let x = c.in_ok-grid.grid in
    let s = start c.args.image.bytes c.args.input.items in record {
      goes = ap (λ b. is_going b x.window.window) c.in_ok-grid.ensures.budget
          ∙ started_going s c.args.conditions c.args.budget (grid_of x) refl c.requires.some
          (conditions_start s c.args.conditions c.in_ok-predictor.predictor c.weather_for.result (grid_of x)
          c.in_ok-grid.ensures.begun c.in_ok-predictor.ensures c.weather_for.ensures);
    }

pub returns-clause-ran : goal.returns-clause-ran
returns-clause-ran c =
    let x = c.in_ok-grid.grid in
    let bytes = c.args.image.bytes in
    let input = c.args.input.items in
    let s = start bytes input in
    let ran = c.run_out.result in
    subst (λ bs. IsRan bs bytes input c.args.budget c.args.conditions (Some ran.ending) (grid_of ran.grid))
    (ap (λ (i : Image). i.blocks) c.in_ok-grid.ensures.image)
    (subst (λ b. IsRan (blocks_of x) bytes input b c.args.conditions (Some ran.ending) (grid_of ran.grid))
    c.in_ok-grid.ensures.budget
    (c.run_out.ensures.ran s c.args.conditions refl (conditions_start s c.args.conditions c.in_ok-predictor.predictor
    c.weather_for.result (grid_of x) c.in_ok-grid.ensures.begun c.in_ok-predictor.ensures c.weather_for.ensures)))
