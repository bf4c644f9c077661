use Rattle.std.proofs.Common.{arith}
use Rattle.hyper_plan.proofs.Joined.{no_answers, more_answers, all_answers}
use Rattle.hyper_plan.proofs.plans.greedy.Goals as goal

pub loop-f-init : goal.loop-f-init
loop-f-init c =
    no_answers c.args.rooms.now c.as_slice-functions.result.now c.new-cuts.result c.new-cuts.ensures.value

pub loop-f-preserved : goal.loop-f-preserved
loop-f-preserved c =
    more_answers c.args.rooms.now c.as_slice-functions.result.now c.loop-f.f c.index-functions-f.result
    c.room_of.result c.loop-f.cuts c.in_ok-walk.walk.answers c.append.new.self (omega arith) c.index-functions-f.is
    c.room_of.ensures c.loop-f.invariant c.in_ok-walk.ensures c.in_ok-append.ensures.ok

pub returns : goal.returns
returns c =
    all_answers c.args.rooms.now c.as_slice-functions.result.now c.args.assigned.now.flat.functions c.loop-f.f
    c.loop-f.cuts (omega arith) c.as_slice-functions.ensures.value c.loop-f.invariant
