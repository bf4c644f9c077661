use Rattle.std.proofs.Common.{◌≡◌, List, sym, ap, ap₂, ◌∙◌}
use Rattle.std.proofs.lemmas.Result.{IfOk-weaker}
use Rattle.ir_forms.specs.declared.hyper.HyperItem.{HyperItem}
use Rattle.ir_forms.specs.inside.HyperCode.{Done, If}
use Rattle.ir_forms.specs.inside.HyperViews.{items_of, then_items}
use Rattle.ir_forms.proofs.Views.{then_if}
use Rattle.loop_unroll.specs.inside.Unrolled.{before, leg, and_more}
use Rattle.loop_unroll.proofs.Views.{behind_set, behind_load, behind_save}
use Rattle.loop_unroll.proofs.turning.put_last.Goals as goal

pub returns-in-Set : goal.returns-in-Set
returns-in-Set c =
    let way = c.args.around.way in
    let t = c.args.around.test in
    let k = items_of c.args.more in
    IfOk-weaker c.put_behind.result
    (λ (all : List HyperItem). items_of all
    ≡ before (items_of c.args.first) (then_items c.args.last.now (leg way t k)))
    (λ (all : List HyperItem). items_of all
    ≡ before (items_of c.args.first) (and_more way t (then_items c.args.last.now Done) k))
    (λ all h. h ∙ ap (before (items_of c.args.first)) (behind_set way t k c.args.last.now
    c.in-Set.to c.in-Set.op c.in-Set.a c.in-Set.b c.in-Set.is))
    c.put_behind.ensures

pub returns-in-Load : goal.returns-in-Load
returns-in-Load c =
    let way = c.args.around.way in
    let t = c.args.around.test in
    let k = items_of c.args.more in
    IfOk-weaker c.put_behind-in-Load.result
    (λ (all : List HyperItem). items_of all
    ≡ before (items_of c.args.first) (then_items c.args.last.now (leg way t k)))
    (λ (all : List HyperItem). items_of all
    ≡ before (items_of c.args.first) (and_more way t (then_items c.args.last.now Done) k))
    (λ all h. h ∙ ap (before (items_of c.args.first)) (behind_load way t k c.args.last.now
    c.in-Load.to c.in-Load.op c.in-Load.address c.in-Load.is))
    c.put_behind-in-Load.ensures

pub returns-in-Save : goal.returns-in-Save
returns-in-Save c =
    let way = c.args.around.way in
    let t = c.args.around.test in
    let k = items_of c.args.more in
    IfOk-weaker c.put_behind-in-Save.result
    (λ (all : List HyperItem). items_of all
    ≡ before (items_of c.args.first) (then_items c.args.last.now (leg way t k)))
    (λ (all : List HyperItem). items_of all
    ≡ before (items_of c.args.first) (and_more way t (then_items c.args.last.now Done) k))
    (λ all h. h ∙ ap (before (items_of c.args.first)) (behind_save way t k c.args.last.now
    c.in-Save.op c.in-Save.address c.in-Save.value c.in-Save.is))
    c.put_behind-in-Save.ensures

pub put_if-requires : goal.put_if-requires
put_if-requires c = record {
  is = λ rest.
      ap (λ (i : HyperItem). then_items i rest) c.in-If.is ∙ then_if c.in-If.test c.in-If.yes c.in-If.no rest
      ∙ ap₂ (λ (a b : List HyperItem). If c.in-If.test (items_of a) (items_of b) rest) (sym c.as_slice.ensures.value)
      (sym c.as_slice-in-If.ensures.value);
}
