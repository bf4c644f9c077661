use Rattle.std.proofs.Common.{ap, ◌∙◌}
use Rattle.ir_forms.specs.declared.hyper.HyperItem.{HyperItem}
use Rattle.ir_forms.specs.inside.HyperViews.{then_items}
use Rattle.ir_forms.proofs.Views.{then_set, then_load, then_save}
use Rattle.hyper_trim.specs.inside.Trim.{trim}
use Rattle.hyper_trim.proofs.Walks.{before_is, if_holds}
use Rattle.hyper_trim.proofs.walking.+walk.Goals as goal

pub walk_item-returns-in_ok-before_set-in-Set : goal.walk_item-returns-in_ok-before_set-in-Set
walk_item-returns-in_ok-before_set-in-Set t c = λ rest u h.
    before_is c.args.leg _ _ u c.before_set.new.walk
    (ap (λ (x : HyperItem). then_items x rest) c.in-Set.is
    ∙ then_set c.in-Set.to c.in-Set.op c.in-Set.a c.in-Set.b rest)
    (c.in_ok-before_set-in-Set.ensures (trim c.args.leg rest u) h)

pub walk_item-returns-in_ok-before_load-in-Load : goal.walk_item-returns-in_ok-before_load-in-Load
walk_item-returns-in_ok-before_load-in-Load t c = λ rest u h.
    before_is c.args.leg _ _ u c.before_load.new.walk
    (ap (λ (x : HyperItem). then_items x rest) c.in-Load.is
    ∙ then_load c.in-Load.to c.in-Load.op c.in-Load.address rest)
    (c.in_ok-before_load-in-Load.ensures (trim c.args.leg rest u) h)

pub walk_item-returns-in_ok-before_save-in-Save : goal.walk_item-returns-in_ok-before_save-in-Save
walk_item-returns-in_ok-before_save-in-Save t c = λ rest u h.
    before_is c.args.leg _ _ u c.before_save.new.walk
    (ap (λ (x : HyperItem). then_items x rest) c.in-Save.is
    ∙ then_save c.in-Save.op c.in-Save.address c.in-Save.value rest)
    (c.in_ok-before_save-in-Save.ensures (trim c.args.leg rest u) h)

pub walk_item-returns-in_ok-before_if-in-If : goal.walk_item-returns-in_ok-before_if-in-If
walk_item-returns-in_ok-before_if-in-If t c = λ rest u h.
    if_holds c.args.leg c.args.i.now c.in-If.test c.in-If.yes c.in-If.no c.as_slice.result.now
    c.as_slice-in-If.result.now rest u c.args.walk.now c.before_if.new.walk c.in_ok-one-in-If.one
    c.in_ok-other-in-If.other c.in-If.is c.as_slice.ensures.value c.as_slice-in-If.ensures.value h
    c.in_ok-one-in-If.ensures c.in_ok-other-in-If.ensures c.in_ok-before_if-in-If.ensures
