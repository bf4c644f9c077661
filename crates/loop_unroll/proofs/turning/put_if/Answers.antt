use Rattle.std.proofs.Common.{◌≡◌, List, sym, ap, ◌∙◌}
use Rattle.std.proofs.lemmas.Result.{IfOk-weaker}
use Rattle.ir_forms.specs.declared.hyper.HyperItem.{HyperItem}
use Rattle.ir_forms.specs.inside.HyperCode.{Done}
use Rattle.ir_forms.specs.inside.HyperViews.{items_of, then_items}
use Rattle.loop_unroll.specs.inside.Unrolled.{before, leg, in_leg, and_more}
use Rattle.loop_unroll.proofs.Views.{in_if, behind_if}
use Rattle.loop_unroll.proofs.turning.put_if.Goals as goal

pub returns-then-keeps_test : goal.returns-then-keeps_test
returns-then-keeps_test c =
    let way = c.args.around.way in
    let t = c.args.around.test in
    let one = items_of c.args.yes.now in
    let other = items_of c.args.no.now in
    let k = items_of c.args.more in
    IfOk-weaker c.put_in.result
    (λ (all : List HyperItem). items_of all ≡ before (items_of c.args.first) (in_leg way c.args.of one other k))
    (λ (all : List HyperItem). items_of all
    ≡ before (items_of c.args.first) (and_more way t (then_items c.args.last.now Done) k))
    (λ all h. h ∙ ap (before (items_of c.args.first)) (in_if way t k c.args.last.now c.args.of one other
    c.requires.is (sym c.keeps_test.ensures ∙ c.if-keeps_test.true)))
    c.put_in.ensures

pub returns-else-keeps_test : goal.returns-else-keeps_test
returns-else-keeps_test c =
    let way = c.args.around.way in
    let t = c.args.around.test in
    let one = items_of c.args.yes.now in
    let other = items_of c.args.no.now in
    let k = items_of c.args.more in
    IfOk-weaker c.put_behind.result
    (λ (all : List HyperItem). items_of all
    ≡ before (items_of c.args.first) (then_items c.args.last.now (leg way t k)))
    (λ (all : List HyperItem). items_of all
    ≡ before (items_of c.args.first) (and_more way t (then_items c.args.last.now Done) k))
    (λ all h. h ∙ ap (before (items_of c.args.first)) (behind_if way t k c.args.last.now c.args.of one other
    c.requires.is (sym c.keeps_test.ensures ∙ c.if-keeps_test.false)))
    c.put_behind.ensures
