use Rattle.std.proofs.Common.{◌≡◌, ℕ, suc, ◌+◌, List, ◌∷◌, drop, sym, ap, ◌∙◌, arith}
use Rattle.std.specs.Prelude.{Some}
use Rattle.std.proofs.Math.Seq.{drop-cons}
use Rattle.ir_forms.specs.declared.hyper.HyperItem.{HyperItem}
use Rattle.ir_forms.specs.inside.HyperCode.{Items}
use Rattle.ir_forms.specs.inside.HyperViews.{items_of, then_items}
use Rattle.ir_forms.proofs.Views.{then_set, then_load, then_save}
use Rattle.predication.specs.inside.Ends.{ends}
use Rattle.predication.proofs.LegLemmas.{branch_ends, if_is}
use Rattle.predication.proofs.branching.+item.Goals as goal

pub item-returns-in_ok-set-in-Set : goal.item-returns-in_ok-set-in-Set
item-returns-in_ok-set-in-Set t c = λ rest.
    c.in_ok-set-in-Set.ensures rest
    ∙ ap (λ (x : Items). ends c.args.guard c.args.work.now c.args.names.now x)
    (sym (ap (λ (x : HyperItem). then_items x rest) c.in-Set.is
    ∙ then_set c.in-Set.to c.in-Set.op c.in-Set.a c.in-Set.b rest))

pub item-returns-in_ok-load-in-Load : goal.item-returns-in_ok-load-in-Load
item-returns-in_ok-load-in-Load t c = λ rest.
    c.in_ok-load-in-Load.ensures rest
    ∙ ap (λ (x : Items). ends c.args.guard c.args.work.now c.args.names.now x)
    (sym (ap (λ (x : HyperItem). then_items x rest) c.in-Load.is
    ∙ then_load c.in-Load.to c.in-Load.op c.in-Load.address rest))

pub item-returns-in_ok-save-in-Save : goal.item-returns-in_ok-save-in-Save
item-returns-in_ok-save-in-Save t c = λ rest.
    c.in_ok-save-in-Save.ensures rest
    ∙ ap (λ (x : Items). ends c.args.guard c.args.work.now c.args.names.now x)
    (sym (ap (λ (x : HyperItem). then_items x rest) c.in-Save.is
    ∙ then_save c.in-Save.op c.in-Save.address c.in-Save.value rest))

pub item-returns-in_ok-meet-in-If : goal.item-returns-in_ok-meet-in-If
item-returns-in_ok-meet-in-If t c = λ rest.
    branch_ends c.args.guard (Some c.guard_of.result) (Some c.guard_of-in-If.result) c.args.work.now
    c.tested.new.work c.items.new.work c.items-in-If.new.work c.meet.new.work c.args.names.now c.meet.new.names
    c.in_ok-first-in-If.first c.items.new.names c.in_ok-second-in-If.second c.items-in-If.new.names c.in-If.test
    (items_of c.as_slice-in-If.result.now) (items_of c.as_slice-in-If-3.result.now) c.in_ok-at-in-If.at
    c.in_ok-at-in-If.ensures.at c.in_ok-at-in-If.ensures.adds c.guard_of.ensures
    (record {
      entries = c.in_ok-first-in-If.ensures.entries ∙ c.as_slice.ensures.value;
      bits = c.in_ok-first-in-If.ensures.bits;
      sets = c.in_ok-first-in-If.ensures.sets;
    })
    c.in_ok-items-in-If.ensures c.guard_of-in-If.ensures
    (record {
      entries = c.in_ok-second-in-If.ensures.entries ∙ c.as_slice-in-If-2.ensures.value;
      bits = c.in_ok-second-in-If.ensures.bits;
      sets = c.in_ok-second-in-If.ensures.sets;
    })
    c.in_ok-items-in-If-2.ensures c.in_ok-meet-in-If.ensures.adds c.in_ok-meet-in-If.ensures.env
    c.in_ok-meet-in-If.ensures.bits c.in_ok-meet-in-If.ensures.sets rest
    ∙ ap (λ (x : Items). ends c.args.guard c.args.work.now c.args.names.now x)
    (if_is c.args.item.now c.in-If.test c.in-If.yes c.in-If.no c.as_slice-in-If.result.now
    c.as_slice-in-If-3.result.now rest
    c.in-If.is c.as_slice-in-If.ensures.value c.as_slice-in-If-3.ensures.value)

pub items-loop-i-preserved : goal.items-loop-i-preserved
items-loop-i-preserved t c =
    let all = c.args.items.now in
    let i = c.loop-i.i-index in
    let a = c.i-item.result in
    let e1 : i + 1 ≡ suc i = omega arith in
    let dc : drop i all ≡ a ∷ drop (i + 1) all =
    drop-cons all i a (omega arith) ∙ ap (λ (x : HyperItem). x ∷ drop (suc i) all) (sym c.i-item.is)
    ∙ ap (λ (n : ℕ). a ∷ drop n all) (sym e1) in
    c.in_ok-item.ensures (items_of (drop (i + 1) all))
    ∙ ap (λ (x : List HyperItem). ends c.args.guard c.loop-i.work c.loop-i.names (items_of x)) (sym dc)
    ∙ c.loop-i.invariant
