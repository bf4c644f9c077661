use Rattle.std.proofs.Common.{◌||◌, List, sym, ap, ◌∙◌}
use Rattle.ir_forms.specs.declared.hyper.HyperItem.{HyperItem}
use Rattle.ir_forms.specs.inside.HyperViews.{items_of, then_items}
use Rattle.ir_forms.proofs.Views.{then_set, then_load, then_save, then_if}
use Rattle.loop_unroll.specs.inside.Unrolled.{sets}
use Rattle.loop_unroll.proofs.turning.+sets.Goals as goal

pub item_sets-returns-in-Set : goal.item_sets-returns-in-Set
item_sets-returns-in-Set t c = λ rest.
    ap (sets c.args.register) (ap (λ (i : HyperItem). then_items i rest) c.in-Set.is
    ∙ then_set c.in-Set.to c.in-Set.op c.in-Set.a c.in-Set.b rest)

pub item_sets-returns-in-Load : goal.item_sets-returns-in-Load
item_sets-returns-in-Load t c = λ rest.
    ap (sets c.args.register) (ap (λ (i : HyperItem). then_items i rest) c.in-Load.is
    ∙ then_load c.in-Load.to c.in-Load.op c.in-Load.address rest)

pub item_sets-returns-in-Save : goal.item_sets-returns-in-Save
item_sets-returns-in-Save t c = λ rest.
    ap (sets c.args.register) (ap (λ (i : HyperItem). then_items i rest) c.in-Save.is
    ∙ then_save c.in-Save.op c.in-Save.address c.in-Save.value rest)

pub item_sets-returns-then-sets : goal.item_sets-returns-then-sets
item_sets-returns-then-sets t c = λ rest.
    let r = c.args.register in
    ap (sets r) (ap (λ (i : HyperItem). then_items i rest) c.in-If.is
    ∙ then_if c.in-If.test c.in-If.yes c.in-If.no rest)
    ∙ ap (λ b. b || (sets r (items_of c.in-If.no) || sets r rest))
    (sym (ap (λ (l : List HyperItem). sets r (items_of l)) c.as_slice.ensures.value) ∙ sym c.sets.ensures
    ∙ c.if-sets.true)
    ∙ sym (ap (λ b. b || sets r rest) c.if-sets.true)

pub item_sets-returns-else-sets : goal.item_sets-returns-else-sets
item_sets-returns-else-sets t c = λ rest.
    let r = c.args.register in
    ap (sets r) (ap (λ (i : HyperItem). then_items i rest) c.in-If.is
    ∙ then_if c.in-If.test c.in-If.yes c.in-If.no rest)
    ∙ ap (λ b. b || (sets r (items_of c.in-If.no) || sets r rest))
    (sym (ap (λ (l : List HyperItem). sets r (items_of l)) c.as_slice.ensures.value) ∙ sym c.sets.ensures
    ∙ c.if-sets.false)
    ∙ ap (λ b. b || sets r rest)
    (sym (ap (λ (l : List HyperItem). sets r (items_of l)) c.as_slice-else-sets.ensures.value)
    ∙ sym c.sets-else-sets.ensures)
