use Rattle.std.proofs.Common.{sym, ap, ap₂, ◌∙◌}
use Rattle.ir_forms.specs.declared.hyper.Tail as declared
use Rattle.ir_forms.specs.inside.HyperCode.{Test, Tail}
use Rattle.ir_forms.specs.inside.HyperViews.{tail_of}
use Rattle.ir_forms.proofs.Views.{tail_leave, tail_test}
use Rattle.hyper_trim.specs.inside.Forward.{forward_tail, source_in}
use Rattle.hyper_trim.specs.inside.Entries.{copies_of}
use Rattle.hyper_trim.proofs.forwarding.+forward_tail.Goals as goal

pub returns-in-Leave : goal.returns-in-Leave
returns-in-Leave t c =
    tail_leave c.in-Leave.exit
    ∙ ap (λ (x : Tail). forward_tail x (copies_of c.args.entries.now))
    (sym (ap tail_of c.in-Leave.is ∙ tail_leave c.in-Leave.exit))

pub returns-in_ok-new-in-Test-2 : goal.returns-in_ok-new-in-Test-2
returns-in_ok-new-in-Test-2 t c =
    let k = copies_of c.args.entries.now in
    let one = ap tail_of c.in_ok-new-in-Test.ensures.ok ∙ c.in_ok-one-in-Test.ensures
    ∙ ap (λ (x : declared.Tail). forward_tail (tail_of x) k) c.into_inner.ensures.value in
    let other = ap tail_of c.in_ok-new-in-Test-2.ensures.ok ∙ c.in_ok-other-in-Test.ensures
    ∙ ap (λ (x : declared.Tail). forward_tail (tail_of x) k) c.into_inner-in-Test.ensures.value in
    tail_test c.source_in.result c.in_ok-new-in-Test.field-0 c.in_ok-new-in-Test-2.field-0
    ∙ ap (λ x. Test x (tail_of c.in_ok-new-in-Test.field-0) (tail_of c.in_ok-new-in-Test-2.field-0))
    c.source_in.ensures
    ∙ ap₂ (Test (source_in k c.in-Test.test)) one other
    ∙ sym (ap (λ (x : Tail). forward_tail x k)
    (ap tail_of c.in-Test.is ∙ tail_test c.in-Test.test c.in-Test.yes c.in-Test.no))
