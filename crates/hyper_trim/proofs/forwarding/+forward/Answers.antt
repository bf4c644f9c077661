use Rattle.std.proofs.Common.{◌≡◌, ℕ, suc, ◌+◌, List, [], ◌∷◌, drop, sym, ap, ap₂, ◌∙◌, arith}
use Rattle.std.proofs.Math.Seq.{drop-cons}
use Rattle.std.proofs.lemmas.List.{drop_all}
use Rattle.ir_forms.specs.declared.hyper.HyperItem.{HyperItem}
use Rattle.ir_forms.specs.inside.HyperViews.{items_of}
use Rattle.hyper_trim.specs.declared.forwarding.Entry.{Entry}
use Rattle.hyper_trim.specs.inside.Forward.{source_in, forget_all, forward, behind}
use Rattle.hyper_trim.specs.inside.Entries.{copies_of, before}
use Rattle.hyper_trim.proofs.Forwarded.{set_items, set_behind, load_items, load_behind, if_items, if_behind}
use Rattle.hyper_trim.proofs.Forwarded.{save_items, save_behind}
use Rattle.hyper_trim.proofs.Lists.{before_done, before_more}
use Rattle.hyper_trim.proofs.forwarding.+forward.Goals as goal

pub forward_item-returns-in_ok-behind_set-in-Set-clause-items :
    goal.forward_item-returns-in_ok-behind_set-in-Set-clause-items
forward_item-returns-in_ok-behind_set-in-Set-clause-items t c = λ rest.
    set_items (copies_of c.args.entries.now) (copies_of c.behind_set.new.entries) c.args.i.now rest c.in-Set.to
    c.in-Set.op c.in-Set.a c.in-Set.b c.source_in-a.result c.source_in-b.result c.in-Set.is
    (c.source_in-a.ensures ∙ ap (λ (l : List Entry). source_in (copies_of l) c.in-Set.a) c.as_slice.ensures.value)
    (c.source_in-b.ensures
    ∙ ap (λ (l : List Entry). source_in (copies_of l) c.in-Set.b) c.as_slice-in-Set.ensures.value)
    c.in_ok-behind_set-in-Set.ensures

pub forward_item-returns-in_ok-behind_set-in-Set-clause-behind :
    goal.forward_item-returns-in_ok-behind_set-in-Set-clause-behind
forward_item-returns-in_ok-behind_set-in-Set-clause-behind t c = λ rest.
    set_behind (copies_of c.args.entries.now) (copies_of c.behind_set.new.entries) c.args.i.now rest c.in-Set.to
    c.in-Set.op c.in-Set.a c.in-Set.b c.source_in-a.result c.source_in-b.result c.in-Set.is
    (c.source_in-a.ensures ∙ ap (λ (l : List Entry). source_in (copies_of l) c.in-Set.a) c.as_slice.ensures.value)
    (c.source_in-b.ensures
    ∙ ap (λ (l : List Entry). source_in (copies_of l) c.in-Set.b) c.as_slice-in-Set.ensures.value)
    c.in_ok-behind_set-in-Set.ensures

pub forward_item-returns-in_ok-forget-in-Load-clause-items :
    goal.forward_item-returns-in_ok-forget-in-Load-clause-items
forward_item-returns-in_ok-forget-in-Load-clause-items t c = λ rest.
    load_items (copies_of c.args.entries.now) (copies_of c.forget.new.entries) c.args.i.now rest c.in-Load.to
    c.in-Load.op c.in-Load.address c.source_in-address.result c.in-Load.is
    (c.source_in-address.ensures
    ∙ ap (λ (l : List Entry). source_in (copies_of l) c.in-Load.address) c.as_slice-in-Load.ensures.value)
    c.in_ok-forget-in-Load.ensures

pub forward_item-returns-in_ok-forget-in-Load-clause-behind :
    goal.forward_item-returns-in_ok-forget-in-Load-clause-behind
forward_item-returns-in_ok-forget-in-Load-clause-behind t c = λ rest.
    load_behind (copies_of c.args.entries.now) (copies_of c.forget.new.entries) c.args.i.now rest c.in-Load.to
    c.in-Load.op c.in-Load.address c.source_in-address.result c.in-Load.is
    (c.source_in-address.ensures
    ∙ ap (λ (l : List Entry). source_in (copies_of l) c.in-Load.address) c.as_slice-in-Load.ensures.value)
    c.in_ok-forget-in-Load.ensures

pub forward_item-returns-in-Save-clause-items : goal.forward_item-returns-in-Save-clause-items
forward_item-returns-in-Save-clause-items t c = λ rest.
    save_items (copies_of c.args.entries.now) c.args.i.now rest c.in-Save.op c.in-Save.address c.in-Save.value
    c.source_in.result c.source_in-in-Save.result c.in-Save.is
    (c.source_in.ensures
    ∙ ap (λ (l : List Entry). source_in (copies_of l) c.in-Save.address) c.as_slice-in-Save.ensures.value)
    (c.source_in-in-Save.ensures
    ∙ ap (λ (l : List Entry). source_in (copies_of l) c.in-Save.value) c.as_slice-in-Save-2.ensures.value)

pub forward_item-returns-in-Save-clause-behind : goal.forward_item-returns-in-Save-clause-behind
forward_item-returns-in-Save-clause-behind t c = λ rest.
    save_behind (copies_of c.args.entries.now) c.args.i.now rest c.in-Save.op c.in-Save.address c.in-Save.value
    c.in-Save.address c.in-Save.value c.in-Save.is

pub forward_item-returns-in_ok-forget_all-in-If-2-clause-items :
    goal.forward_item-returns-in_ok-forget_all-in-If-2-clause-items
forward_item-returns-in_ok-forget_all-in-If-2-clause-items t c = λ rest.
    if_items (copies_of c.args.entries.now) (copies_of c.forget_all-in-If.new.entries) c.args.i.now rest c.in-If.test
    c.source_in-test.result c.in-If.yes c.in-If.no c.in_ok-one-in-If.one c.in_ok-other-in-If.other c.in-If.is
    (c.source_in-test.ensures
    ∙ ap (λ (l : List Entry). source_in (copies_of l) c.in-If.test) c.as_slice-in-If.ensures.value)
    (c.in_ok-one-in-If.ensures.items
    ∙ ap₂ (λ (l : List HyperItem) (k : List Entry). forward (items_of l) (copies_of k))
    c.as_slice-in-If-3.ensures.value
    (c.in_ok-first-in-If.ensures.ok ∙ c.as_slice-in-If-2.ensures.value))
    (c.in_ok-other-in-If.ensures.items
    ∙ ap₂ (λ (l : List HyperItem) (k : List Entry). forward (items_of l) (copies_of k))
    c.as_slice-in-If-5.ensures.value
    (c.in_ok-second-in-If.ensures.ok ∙ c.as_slice-in-If-4.ensures.value))
    (c.in_ok-forget_all-in-If-2.ensures
    ∙ ap₂ (λ (l : List HyperItem) m. forget_all (items_of l) m) c.as_slice-in-If-7.ensures.value
    (c.in_ok-forget_all-in-If.ensures
    ∙ ap (λ (l : List HyperItem). forget_all (items_of l) (copies_of c.args.entries.now))
    c.as_slice-in-If-6.ensures.value))

pub forward_item-returns-in_ok-forget_all-in-If-2-clause-behind :
    goal.forward_item-returns-in_ok-forget_all-in-If-2-clause-behind
forward_item-returns-in_ok-forget_all-in-If-2-clause-behind t c = λ rest.
    if_behind (copies_of c.args.entries.now) (copies_of c.forget_all-in-If.new.entries) c.args.i.now rest c.in-If.test
    c.source_in-test.result c.in-If.yes c.in-If.no c.in_ok-one-in-If.one c.in_ok-other-in-If.other c.in-If.is
    (c.source_in-test.ensures
    ∙ ap (λ (l : List Entry). source_in (copies_of l) c.in-If.test) c.as_slice-in-If.ensures.value)
    (c.in_ok-one-in-If.ensures.items
    ∙ ap₂ (λ (l : List HyperItem) (k : List Entry). forward (items_of l) (copies_of k))
    c.as_slice-in-If-3.ensures.value
    (c.in_ok-first-in-If.ensures.ok ∙ c.as_slice-in-If-2.ensures.value))
    (c.in_ok-other-in-If.ensures.items
    ∙ ap₂ (λ (l : List HyperItem) (k : List Entry). forward (items_of l) (copies_of k))
    c.as_slice-in-If-5.ensures.value
    (c.in_ok-second-in-If.ensures.ok ∙ c.as_slice-in-If-4.ensures.value))
    (c.in_ok-forget_all-in-If-2.ensures
    ∙ ap₂ (λ (l : List HyperItem) m. forget_all (items_of l) m) c.as_slice-in-If-7.ensures.value
    (c.in_ok-forget_all-in-If.ensures
    ∙ ap (λ (l : List HyperItem). forget_all (items_of l) (copies_of c.args.entries.now))
    c.as_slice-in-If-6.ensures.value))

pub forward_items-loop-i-preserved : goal.forward_items-loop-i-preserved
forward_items-loop-i-preserved t c =
    let all = c.args.items.now in
    let i = c.loop-i.i-index in
    let a = c.i-item.result in
    let e1 : i + 1 ≡ suc i = omega arith in
    let dc : drop i all ≡ a ∷ drop (i + 1) all =
    drop-cons all i a (omega arith) ∙ ap (λ (x : HyperItem). x ∷ drop (suc i) all) (sym c.i-item.is)
    ∙ ap (λ (n : ℕ). a ∷ drop n all) (sym e1) in
    let rest = items_of (drop (i + 1) all) in
    let k = copies_of c.forward_item.new.entries in
    record {
      items = ap (λ (l : List HyperItem). before l (forward rest k)) c.in_ok-push.ensures.ok
          ∙ before_more c.loop-i.all c.in_ok-forward_item.field-0 (forward rest k)
          ∙ ap (before c.loop-i.all) (c.in_ok-forward_item.ensures.items rest)
          ∙ ap (λ (x : List HyperItem). before c.loop-i.all (forward (items_of x) (copies_of
          c.loop-i.entries))) (sym dc)
          ∙ c.loop-i.invariant.items;
      behind = c.in_ok-forward_item.ensures.behind rest
          ∙ ap (λ (x : List HyperItem). behind (items_of x) (copies_of c.loop-i.entries)) (sym dc)
          ∙ c.loop-i.invariant.behind;
    }

pub forward_items-returns-clause-items : goal.forward_items-returns-clause-items
forward_items-returns-clause-items t c =
    let e : drop c.loop-i.i-index c.args.items.now ≡ [] = drop_all c.loop-i.i-index c.args.items.now (omega arith) in
    sym (before_done c.loop-i.all)
    ∙ ap (λ (x : List HyperItem). before c.loop-i.all (forward (items_of x) (copies_of c.loop-i.entries))) (sym e)
    ∙ c.loop-i.invariant.items
