use Rattle.std.proofs.Common.{◌∙◌}
use Rattle.std.specs.Prelude.{Some}
use Rattle.predication.specs.inside.Ends.{tail_labelled}
use Rattle.ir_forms.specs.inside.HyperCode.{Test}
use Rattle.predication.proofs.ExitLemmas.{finished, leave_finished, test_finished, test_labelled}
use Rattle.predication.proofs.ending.+finish.Goals as goal

pub returns-in_ok-leave-in-Leave : goal.returns-in_ok-leave-in-Leave
returns-in_ok-leave-in-Leave t c =
    let f = leave_finished c.args.guard c.args.work.now c.leave.new.work c.args.names.now c.leave.new.names
    c.args.tail.now c.in-Leave.exit c.in-Leave.is c.in_ok-leave-in-Leave.ensures.work
    c.in_ok-leave-in-Leave.ensures.env c.in_ok-leave-in-Leave.ensures.sets in
    record { work = f.work; env = f.env; sets = f.sets }

pub returns-in_ok-meet-in-Test : goal.returns-in_ok-meet-in-Test
returns-in_ok-meet-in-Test t c =
    let one = tail_labelled c.get.result.now in
    let other = tail_labelled c.get-in-Test.result.now in
    let f = finished c.args.guard c.args.work.now c.meet.new.work c.args.names.now c.meet.new.names
    (tail_labelled c.args.tail.now) (Test c.in-Test.test one other)
    (test_finished c.args.guard (Some c.guard_of.result) (Some c.guard_of-in-Test.result) c.args.work.now
    c.tested.new.work c.finish.new.work c.finish-in-Test.new.work c.meet.new.work c.args.names.now
    c.meet.new.names c.in_ok-first-in-Test.first c.finish.new.names c.in_ok-second-in-Test.second
    c.finish-in-Test.new.names c.in-Test.test one other c.in_ok-at-in-Test.at c.in_ok-at-in-Test.ensures.at
    c.in_ok-at-in-Test.ensures.adds c.guard_of.ensures
    (record {
      entries = c.in_ok-first-in-Test.ensures.entries ∙ c.as_slice.ensures.value;
      bits = c.in_ok-first-in-Test.ensures.bits;
      sets = c.in_ok-first-in-Test.ensures.sets;
    })
    (record {
      work = c.in_ok-finish-in-Test.ensures.work;
      env = c.in_ok-finish-in-Test.ensures.env;
      sets = c.in_ok-finish-in-Test.ensures.sets;
    })
    c.guard_of-in-Test.ensures
    (record {
      entries = c.in_ok-second-in-Test.ensures.entries ∙ c.as_slice-in-Test.ensures.value;
      bits = c.in_ok-second-in-Test.ensures.bits;
      sets = c.in_ok-second-in-Test.ensures.sets;
    })
    (record {
      work = c.in_ok-finish-in-Test-2.ensures.work;
      env = c.in_ok-finish-in-Test-2.ensures.env;
      sets = c.in_ok-finish-in-Test-2.ensures.sets;
    })
    c.in_ok-meet-in-Test.ensures.adds c.in_ok-meet-in-Test.ensures.env c.in_ok-meet-in-Test.ensures.sets)
    (test_labelled c.args.tail.now c.in-Test.test c.in-Test.yes c.in-Test.no c.get.result.now
    c.get-in-Test.result.now c.in-Test.is c.get.ensures.value c.get-in-Test.ensures.value) in
    record { work = f.work; env = f.env; sets = f.sets }
