use Rattle.std.proofs.Common.{List, refl, ap, ap₂, ◌∙◌}
use Rattle.ir_forms.specs.declared.hyper.HyperItem.{HyperItem}
use Rattle.ir_forms.specs.inside.HyperViews.{items_of}
use Rattle.hyper_trim.specs.inside.Forward.{forget_all}
use Rattle.hyper_trim.specs.inside.Entries.{copies_of}
use Rattle.hyper_trim.proofs.Forwarded.{forget_is, set_is, load_is, save_is, if_is}
use Rattle.hyper_trim.proofs.forwarding.+forget.Goals as goal

pub forget_item-returns-in_ok-forget-in-Set : goal.forget_item-returns-in_ok-forget-in-Set
forget_item-returns-in_ok-forget-in-Set t c = λ rest.
    let k = copies_of c.args.entries.now in
    let d = copies_of c.forget.new.entries in
    forget_is k d c.args.i.now rest _ (set_is k d c.args.i.now rest c.in-Set.to c.in-Set.op c.in-Set.a c.in-Set.b
    c.in-Set.is)
    (ap (forget_all rest) c.in_ok-forget-in-Set.ensures)

pub forget_item-returns-in_ok-forget-in-Load : goal.forget_item-returns-in_ok-forget-in-Load
forget_item-returns-in_ok-forget-in-Load t c = λ rest.
    let k = copies_of c.args.entries.now in
    let d = copies_of c.forget-in-Load.new.entries in
    forget_is k d c.args.i.now rest _ (load_is k d c.args.i.now rest c.in-Load.to c.in-Load.op c.in-Load.address
    c.in-Load.is)
    (ap (forget_all rest) c.in_ok-forget-in-Load.ensures)

pub forget_item-returns-in-Save : goal.forget_item-returns-in-Save
forget_item-returns-in-Save t c = λ rest.
    let k = copies_of c.args.entries.now in
    forget_is k k c.args.i.now rest _ (save_is k k c.args.i.now rest c.in-Save.op c.in-Save.address
    c.in-Save.value c.in-Save.is)
    refl

pub forget_item-returns-in_ok-forget_all-in-If-2 :
    goal.forget_item-returns-in_ok-forget_all-in-If-2
forget_item-returns-in_ok-forget_all-in-If-2 t c = λ rest.
    let k = copies_of c.args.entries.now in
    let d = copies_of c.forget_all-in-If.new.entries in
    forget_is k d c.args.i.now rest _ (if_is k d c.args.i.now rest c.in-If.test c.in-If.yes c.in-If.no c.in-If.is)
    (ap (forget_all rest) (c.in_ok-forget_all-in-If-2.ensures
    ∙ ap₂ (λ (l : List HyperItem) m. forget_all (items_of l) m) c.as_slice-in-If.ensures.value
    (c.in_ok-forget_all-in-If.ensures
    ∙ ap (λ (l : List HyperItem). forget_all (items_of l) k) c.as_slice.ensures.value)))
