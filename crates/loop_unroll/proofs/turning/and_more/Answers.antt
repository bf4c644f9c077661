use Rattle.std.proofs.Common.{◌≡◌, List, sym, ◌∙◌}
use Rattle.std.proofs.lemmas.Result.{IfOk-weaker}
use Rattle.ir_forms.specs.declared.hyper.HyperItem.{HyperItem}
use Rattle.ir_forms.specs.inside.HyperCode.{Done}
use Rattle.ir_forms.specs.inside.HyperViews.{items_of, then_items}
use Rattle.loop_unroll.specs.inside.Unrolled.{before, leg, and_more}
use Rattle.loop_unroll.proofs.Views.{more_none, more_last}
use Rattle.loop_unroll.proofs.turning.and_more.Goals as goal

pub returns-in-None : goal.returns-in-None
returns-in-None c =
    let way = c.args.around.way in
    let t = c.args.around.test in
    let k = items_of c.args.more in
    IfOk-weaker c.alone.result (λ (all : List HyperItem). items_of all ≡ leg way t k)
    (λ (all : List HyperItem). items_of all ≡ and_more way t (items_of c.args.items.now) k)
    (λ all h. h ∙ more_none way t k c.args.items.now (sym c.in_ok-turn.ensures ∙ c.in-None.ensures.value.0))
    c.alone.ensures

pub returns-in-Some : goal.returns-in-Some
returns-in-Some c =
    let way = c.args.around.way in
    let t = c.args.around.test in
    let k = items_of c.args.more in
    IfOk-weaker c.put_last.result
    (λ (all : List HyperItem). items_of all
    ≡ before (items_of c.pop.new.self) (and_more way t (then_items c.in-Some.last Done) k))
    (λ (all : List HyperItem). items_of all ≡ and_more way t (items_of c.args.items.now) k)
    (λ all h. more_last way t k c.args.items.now c.pop.new.self c.in-Some.last (items_of all)
    (sym c.in_ok-turn.ensures ∙ c.in-Some.ensures.value) h)
    c.put_last.ensures
