use Rattle.std.proofs.Common.{ap, ap₂, sym, ◌∙◌}
use Rattle.ir_forms.specs.inside.HyperViews.{tail_of}
use Rattle.ir_forms.proofs.Views.{tail_leave, tail_test}
use Rattle.loop_unroll.specs.inside.Unrolled.{loop_of, loop_between}
use Rattle.loop_unroll.proofs.loops.loop_of.Goals as goal

pub returns-in-Leave : goal.returns-in-Leave
returns-in-Leave c = sym (ap (loop_of c.args.number) (ap tail_of c.in-Leave.is ∙ tail_leave c.in-Leave.field-0))

pub returns-in-Test : goal.returns-in-Test
returns-in-Test c =
    c.loop_between.ensures
    ∙ ap₂ (λ x y. loop_between c.args.number c.in-Test.test (tail_of x) (tail_of y)) c.get.ensures.value
    c.get-in-Test.ensures.value
    ∙ sym (ap (loop_of c.args.number) (ap tail_of c.in-Test.is
    ∙ tail_test c.in-Test.test c.in-Test.yes c.in-Test.no))
