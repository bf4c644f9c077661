use Rattle.std.specs.Prelude.{◌<◌, ◌^◌}
use Rattle.std.proofs.Common.{arith, sym}
use Rattle.commit_flush.proofs.SeenFacts.{all_good}
use Rattle.commit_flush_spec.specs.inside.Laws.{IsWhole}
use Rattle.trips_grid_answers.proofs.GridRuns.{plain_told}
use Rattle.trips_grid_answers.proofs.gridded.plain_from.Goals as goal

pub returns : goal.returns
returns c =
    let image = c.count.ensures.image in
    let good = all_good c.args.image image in
    let s = c.args.arch.state in
    let size = c.memory.ensures.size in
    let value = c.memory.ensures.value in
    let full : IsWhole s = record { registers = c.register.ensures.count; memory = rw (sym value) size } in
    let few : c.args.most < 2 ^ 32 = omega (arith) in
    plain_told c.args.image.blocks s c.args.conditions c.args.most c.args.show _ c.in_ok-ran.ran.ending _ _
    c.in_ok-ran.ensures.image
    (c.runs_from_a_state_end.ensures.within _ _ _ _ _ _ good full c.requires.next few)
    (c.runs_from_a_state_end.ensures.trapped _ _ _ _ _ _ good full c.requires.next few)
    (λ block cause. c.runs_from_a_state_end.ensures.trapped_block _ _ _ _ block cause _ good full c.requires.next few)
    c.in_ok-ran.ensures.ran c.requires.plain c.requires.untold c.ended_answer.ensures
