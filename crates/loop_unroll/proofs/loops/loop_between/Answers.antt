use Rattle.std.proofs.Common.{ap, ap₂, sym, ◌∙◌}
use Rattle.ir_forms.specs.inside.HyperViews.{tail_of}
use Rattle.ir_forms.proofs.Views.{tail_leave, tail_test}
use Rattle.loop_unroll.specs.inside.Unrolled.{loop_between, loop_by}
use Rattle.loop_unroll.proofs.loops.loop_between.Goals as goal

pub returns-in-Leave-other : goal.returns-in-Leave-other
returns-in-Leave-other c =
    c.loop_by.ensures ∙ ap₂ (loop_by c.args.test) c.jumps_to.ensures c.jumps_to-in-Leave-other.ensures
    ∙ sym (ap₂ (loop_between c.args.number c.args.test) (ap tail_of c.in-Leave.is ∙ tail_leave c.in-Leave.one)
    (ap tail_of c.in-Leave-other.is ∙ tail_leave c.in-Leave-other.other))

pub returns-in-Test-other : goal.returns-in-Test-other
returns-in-Test-other c =
    sym (ap₂ (loop_between c.args.number c.args.test) (ap tail_of c.in-Leave.is ∙ tail_leave c.in-Leave.one)
    (ap tail_of c.in-Test-other.is ∙ tail_test c.in-Test-other.test c.in-Test-other.yes c.in-Test-other.no))

pub returns-in-Test : goal.returns-in-Test
returns-in-Test c =
    sym (ap (λ t. loop_between c.args.number c.args.test t (tail_of c.args.other.now))
    (ap tail_of c.in-Test.is ∙ tail_test c.in-Test.test c.in-Test.yes c.in-Test.no))
