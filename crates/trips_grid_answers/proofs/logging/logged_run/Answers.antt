use Rattle.std.specs.Prelude.{◌<◌, ◌^◌, length}
use Rattle.std.proofs.Common.{arith}
use Rattle.trips_isa.specs.Machine.{start}
use Rattle.commit_flush.proofs.SeenFacts.{all_good}
use Rattle.trips_grid_answers.proofs.GridRuns.{logged_told}
use Rattle.trips_grid_answers.proofs.logging.logged_run.Goals as goal

pub returns : goal.returns
returns c =
    let image = c.count.ensures.image in
    let good = all_good c.args.image image in
    let some : 0 < length c.args.image.blocks = omega (arith, image.fits.some) in
    let few : c.args.most < 2 ^ 32 = omega (arith) in
    logged_told c.args.image.blocks (start c.args.image.bytes c.args.input) c.args.conditions c.args.most c.args.show _
    c.in_ok-run.run'.ending _ _ c.in_ok-run.ensures.image
    (c.runs_from_the_start_end.ensures.within _ _ _ _ _ _ _ good some image.fits.few c.requires.some few)
    (c.runs_from_the_start_end.ensures.trapped _ _ _ _ _ _ _ good some image.fits.few c.requires.some few)
    (λ block cause. c.runs_from_the_start_end.ensures.trapped_block _ _ _ _ _ block cause _ good some image.fits.few
    c.requires.some few)
    c.args.cycles c.in_ok-run.run'.log c.in_ok-run.ensures.ran c.in_ok-run.ensures.kept c.requires.plain
    c.requires.told c.logged_answer.ensures
