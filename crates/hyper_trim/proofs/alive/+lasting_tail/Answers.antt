use Rattle.std.proofs.Common.{bit_or, sym, ap, ap₂, ◌∙◌}
use Rattle.ir_forms.specs.inside.HyperCode.{Test}
use Rattle.ir_forms.specs.inside.HyperViews.{tail_of}
use Rattle.ir_forms.proofs.Views.{tail_leave, tail_test}
use Rattle.hyper_trim.specs.inside.Alive as spec
use Rattle.hyper_trim.proofs.alive.+lasting_tail.Goals as goal

pub returns-in-Leave : goal.returns-in-Leave
returns-in-Leave t c =
    c.lasting_exit.ensures
    ∙ ap (spec.lasting_tail c.args.table.now c.args.ret)
    (sym (ap tail_of c.in-Leave.is ∙ tail_leave c.in-Leave.exit))

pub returns-in-Test : goal.returns-in-Test
returns-in-Test t c =
    ap₂ bit_or c.lasting_tail.ensures c.lasting_tail-in-Test.ensures
    ∙ ap (spec.lasting_tail c.args.table.now c.args.ret)
    (ap₂ (Test c.in-Test.test) (ap tail_of c.get.ensures.value) (ap tail_of c.get-in-Test.ensures.value)
    ∙ sym (ap tail_of c.in-Test.is ∙ tail_test c.in-Test.test c.in-Test.yes c.in-Test.no))
