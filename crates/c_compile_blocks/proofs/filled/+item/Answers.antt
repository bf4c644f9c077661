use Rattle.std.proofs.Common.{List, refl, sym, ap₂, ◌∙◌}
use Rattle.ir_forms.specs.declared.hyper.HyperItem.{HyperItem}
use Rattle.ir_forms.specs.declared.hyper.HyperItem.TheVariants as item
use Rattle.ir_forms.specs.inside.HyperCode.{Set, Load, Save}
use Rattle.c_compile_blocks.proofs.FilledItems.{set_is, load_is, save_is, kept, taken}
use Rattle.c_compile_blocks.proofs.filled.+item.Goals as goal

pub behind_item-returns-in-Set : goal.behind_item-returns-in-Set
behind_item-returns-in-Set t c = λ rest.
    let s = c.in-Set in
    kept c.args.item.now rest (Set s.to s.op s.a s.b rest) c.args.guards
    (set_is c.args.item.now s.to s.op s.a s.b rest s.is) refl

pub behind_item-returns-in-Load : goal.behind_item-returns-in-Load
behind_item-returns-in-Load t c = λ rest.
    let s = c.in-Load in
    kept c.args.item.now rest (Load s.to s.op s.address rest) c.args.guards
    (load_is c.args.item.now s.to s.op s.address rest s.is) refl

pub behind_item-returns-in-Save : goal.behind_item-returns-in-Save
behind_item-returns-in-Save t c = λ rest.
    let s = c.in-Save in
    kept c.args.item.now rest (Save s.op s.address s.value rest) c.args.guards
    (save_is c.args.item.now s.op s.address s.value rest s.is) refl

pub behind_item-returns-in_ok-second-in-If : goal.behind_item-returns-in_ok-second-in-If
behind_item-returns-in_ok-second-in-If t c =
    taken c.args.item.now c.in-If.test c.as_slice-yes.result.now c.as_slice-no.result.now c.args.guards
    c.in_ok-first-in-If.first c.in_ok-second-in-If.second c.are_filled.result c.less.result
    (c.in-If.is
    ∙ ap₂ (λ (x y : List HyperItem). item.If c.in-If.test x y) (sym c.as_slice-yes.ensures.value)
    (sym c.as_slice-no.ensures.value))
    c.in_ok-first-in-If.ensures c.in_ok-second-in-If.ensures c.are_filled.ensures c.less.ensures
