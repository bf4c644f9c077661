use Rattle.trips_four_answers.proofs.Begins.{have_begun, stacks}
use Rattle.trips_four_answers.proofs.running.begun.Goals as goal

pub machine_of-requires-clause-stack : goal.machine_of-requires-clause-stack
machine_of-requires-clause-stack c =
    stacks c.args.input.now c.args.seed c.args.most c.args.first c.args.second c.args.third c.args.fourth
    c.in_ok-first.first c.in_ok-second.second c.in_ok-third.third c.in_ok-fourth.fourth
    c.in_ok-first.ensures c.in_ok-second.ensures c.in_ok-third.ensures c.in_ok-fourth.ensures

pub returns : goal.returns
returns c =
    have_begun c.args.input.now c.args.seed c.args.most c.args.first c.args.second c.args.third c.args.fourth
    c.in_ok-first.first c.in_ok-second.second c.in_ok-third.third c.in_ok-fourth.fourth
    c.in_ok-first.ensures c.in_ok-second.ensures c.in_ok-third.ensures c.in_ok-fourth.ensures
    c.machine_of.result c.machine_of.ensures.begun c.machine_of.ensures.images c.machine_of.ensures.budget
