use Rattle.std.proofs.Common.{arith}
use Rattle.commit_flush.proofs.StepFacts.{small, firing_below, read_below, store_below, load_below}
use Rattle.commit_flush.proofs.step.Step.event.Goals as goal

pub overflow_add-result : goal.overflow_add-result
overflow_add-result c =
    let l = small c.args.self c.args.number c.requires.number in
    let n = c.requires.frame in
    omega (arith, l, n)

pub overflow_cast-result-in-Firing : goal.overflow_cast-result-in-Firing
overflow_cast-result-in-Firing c =
    let l = firing_below c.args.self c.args.number c.in-Firing.is c.requires.number in omega (arith, l)

pub overflow_cast-result-in-Read : goal.overflow_cast-result-in-Read
overflow_cast-result-in-Read c =
    let l = read_below c.args.self c.args.number c.in-Read.is c.requires.number in omega (arith, l)

pub overflow_cast-result-in-Store : goal.overflow_cast-result-in-Store
overflow_cast-result-in-Store c =
    let l = store_below c.args.self c.args.number c.in-Store.is c.requires.number in omega (arith, l)

pub overflow_cast-result-in-Load : goal.overflow_cast-result-in-Load
overflow_cast-result-in-Load c =
    let l = load_below c.args.self c.args.number c.in-Load.is c.requires.number in omega (arith, l)
